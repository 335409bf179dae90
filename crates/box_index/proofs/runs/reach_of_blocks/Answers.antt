use Rattle.std.proofs.Common.{List, take, sym, subst, ◌∙◌, ap, ◌++◌}
use Rattle.box_index.specs.declared.entry.IndexEntry.{IndexEntry}
use Rattle.box_index.specs.Blocks.{joined}
use Rattle.box_index.proofs.Joined.{all_of_more}
use Rattle.box_index.proofs.Reach.{Reaches, reaches_none, reaches_both}
use Rattle.box_index.proofs.runs.reach_of_blocks.Goals as goal

pub loop-block-init : goal.loop-block-init
loop-block-init c = reaches_none c.args.bounds.now c.args.zoom

pub loop-block-preserved : goal.loop-block-preserved
loop-block-preserved c =
    let bs = c.args.blocks.now in
    let i = c.loop-block.block-index in
    let bounds = c.args.bounds.now in
    subst (λ (es : List IndexEntry). Reaches bounds c.args.zoom es c.saturating_add-count.result)
    (ap (λ (b : List IndexEntry). joined (take i bs) ++ b) c.block-item.is ∙ sym (all_of_more bs i c.block-item.result c.loop-block-test.true))
    (reaches_both bounds c.args.zoom (joined (take i bs)) c.block-item.result c.loop-block.count c.reach.result c.saturating_add-count.result
    c.loop-block.invariant (record { least = λ few. c.reach.ensures.least; most = c.reach.ensures.most }) c.saturating_add-count.ensures)
