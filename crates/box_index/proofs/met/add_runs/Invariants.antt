use Rattle.std.proofs.Common.{◌*◌, take, Some}
use Rattle.box_index.specs.declared.runs.TheConstants.{RUN}
use Rattle.box_index.specs.Blocks.{joined}
use Rattle.box_index.specs.Met.{AreAdded}
use Rattle.box_index.proofs.met.add_runs.Given as goal

-- the ids of the runs so far
abbrev pub invariant-loop-run : goal.invariant-loop-run
invariant-loop-run l = AreAdded l.bounds l.from (joined (take (l.run * RUN) l.blocks)) l.fn.left l.fn.found.items l.found.items (Some l.rest)
