use Rattle.std.proofs.Common.{take, All}
use Rattle.box_index.specs.Covers.{CoversAll}
use Rattle.box_index.proofs.runs.span_of_blocks.Given as goal

abbrev pub invariant-loop-block : goal.invariant-loop-block
invariant-loop-block l = All (λ b. CoversAll l.span b) (take l.block-index l.blocks)
