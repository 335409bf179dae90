use Rattle.std.proofs.Common.{◌≡◌, ◌+◌, ◌-◌, ◌^◌, ◌<◌, min, drop}
use Rattle.pm_directory.specs.Counts.{addressed_by}
use Rattle.pm_verify.proofs.counting.addressed.Given as goal

abbrev pub invariant-loop-entry : goal.invariant-loop-entry
invariant-loop-entry l = record {
  fits : l.sum < 2 ^ 64;
  so_far : min (l.sum + addressed_by (drop l.entry-index l.tiles)) (2 ^ 64 - 1) ≡ min (addressed_by l.tiles) (2 ^ 64 - 1);
}
