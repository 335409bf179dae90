use Rattle.std.proofs.Common.{◌≡◌, length, take}
use Rattle.pm_build.specs.Joined.{run_views}
use Rattle.pm_build.specs.Offsets.{EachPlaced}
use Rattle.pm_build.proofs.placing.entries_of.Given as goal

abbrev pub invariant-loop-run : goal.invariant-loop-run
invariant-loop-run l = record {
  placed : EachPlaced l.contents.contents (run_views l.contents.contents (take l.run-index l.runs)) l.entries.items;
  count : length l.entries.items ≡ l.run-index;
}
