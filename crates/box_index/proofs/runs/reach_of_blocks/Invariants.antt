use Rattle.std.proofs.Common.{take}
use Rattle.box_index.specs.Blocks.{joined}
use Rattle.box_index.proofs.Reach.{Reaches}
use Rattle.box_index.proofs.runs.reach_of_blocks.Given as goal

-- the count of the blocks so far
abbrev pub invariant-loop-block : goal.invariant-loop-block
invariant-loop-block l = Reaches l.bounds l.zoom (joined (take l.block-index l.blocks)) l.count
