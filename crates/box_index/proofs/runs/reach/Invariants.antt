use Rattle.std.proofs.Common.{◌*◌, take}
use Rattle.box_index.specs.declared.runs.TheConstants.{RUN}
use Rattle.box_index.specs.Blocks.{joined}
use Rattle.box_index.proofs.Reach.{Reaches}
use Rattle.box_index.proofs.runs.reach.Given as goal

-- the count of the runs so far
abbrev pub invariant-loop-run : goal.invariant-loop-run
invariant-loop-run l = Reaches l.bounds l.zoom (joined (take (l.run * RUN) l.blocks)) l.count
