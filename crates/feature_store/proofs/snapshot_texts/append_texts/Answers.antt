use Rattle.std.proofs.Common.{◌++◌, ap, ◌∙◌}
use Rattle.feature_store.proofs.Entries.{own_text, text_more}
use Rattle.feature_store.proofs.Snapshots.{none_put}
use Rattle.feature_store.proofs.snapshot_texts.append_texts.Goals as goal

pub loop-entry-init : goal.loop-entry-init
loop-entry-init c = none_put c.args.out.now.items

pub loop-entry-preserved : goal.loop-entry-preserved
loop-entry-preserved c =
    let es = c.args.entries.now in
    let i = c.loop-entry.entry-index in
    let own = own_text es i c.entry-item.result c.text.result.now c.loop-entry-test.true c.entry-item.is c.requires c.text.ensures.text in
    text_more es i c.entry-item.result c.args.out.now.items c.loop-entry.out.items c.extend_from_slice.new.self.items c.loop-entry-test.true
    c.entry-item.is c.loop-entry.invariant (c.in_ok-extend_from_slice.ensures.items ∙ ap (λ t. c.loop-entry.out.items ++ t) own)
