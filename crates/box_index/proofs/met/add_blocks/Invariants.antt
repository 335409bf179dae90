use Rattle.std.proofs.Common.{take, Some}
use Rattle.box_index.specs.Blocks.{joined}
use Rattle.box_index.specs.Met.{AreAdded}
use Rattle.box_index.proofs.met.add_blocks.Given as goal

-- the ids of the blocks so far
abbrev pub invariant-loop-block : goal.invariant-loop-block
invariant-loop-block l = AreAdded l.bounds l.from (joined (take l.block-index l.blocks)) l.fn.left l.fn.found.items l.found.items (Some l.rest)
