use Rattle.std.proofs.Common.{ℕ, List, ◌++◌, sym, ap, ◌∙◌, arith}
use Rattle.box_index.specs.declared.entry.IndexEntry.{IndexEntry}
use Rattle.box_index.specs.Met.{ids_met}
use Rattle.box_index.proofs.Added.{none_met, added_none, added_all}
use Rattle.box_index.proofs.met.add_block.Goals as goal

pub returns-then-not-boxes_meet : goal.returns-then-not-boxes_meet
returns-then-not-boxes_meet c =
    added_none c.args.bounds.now c.args.from c.args.block.now c.args.left c.args.found.now.items
    (none_met c.args.bounds.now c.args.from c.span.result c.args.block.now c.span.ensures (sym c.boxes_meet.ensures ∙ c.if-not-boxes_meet.true))

pub returns : goal.returns
returns c =
    let left = c.len-2.ensures.count in
    added_all c.args.bounds.now c.args.from c.args.block.now c.args.left _ c.args.found.now.items c.add_entries.new.found.items
    (omega (arith, c.len.ensures.count, c.if-len-left.false)) (omega (arith, c.len.ensures.count, left, c.if-len-left.false))
    (c.in_ok-add_entries.ensures
    ∙ ap (λ (es : List IndexEntry). c.args.found.now.items ++ ids_met c.args.bounds.now c.args.from es) c.entries.ensures)
