use Rattle.std.proofs.Common.{subst, take}
use Rattle.std.proofs.lemmas.List.Elements.{All-more, All-weaker}
use Rattle.box_index.specs.Covers.{CoversAll}
use Rattle.box_index.proofs.Covers.{covers_all_part}
use Rattle.box_index.proofs.runs.span_of_blocks.Goals as goal

pub loop-block-preserved : goal.loop-block-preserved
loop-block-preserved c =
    let bs = c.args.blocks.now in
    let i = c.loop-block.block-index in
    let new = c.widened-span.result in
    All-more (CoversAll new) bs i c.block-item.result c.loop-block-test.true
    (All-weaker (CoversAll c.loop-block.span) (CoversAll new) (λ b h. covers_all_part new c.loop-block.span b c.widened-span.ensures.first h)
    (take i bs) c.loop-block.invariant)
    (subst (CoversAll new) c.block-item.is (covers_all_part new c.span.result c.block-item.result c.widened-span.ensures.second c.span.ensures))
