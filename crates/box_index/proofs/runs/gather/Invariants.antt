use Rattle.std.proofs.Common.{◌≡◌, ◌*◌, take}
use Rattle.box_index.specs.declared.runs.TheConstants.{RUN}
use Rattle.box_index.specs.Shown.{ids_shown}
use Rattle.box_index.specs.Blocks.{joined}
use Rattle.box_index.proofs.runs.gather.Given as goal

-- the ids of the runs so far
abbrev pub invariant-loop-run : goal.invariant-loop-run
invariant-loop-run l = l.found.items ≡ ids_shown l.bounds l.zoom (joined (take (l.run * RUN) l.blocks))
