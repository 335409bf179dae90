use Rattle.std.proofs.Common.{[], ◌∷◌, refl, ap, subst, ◌≡◌, ◌∙◌, ◌++◌, map, take, arith}
use Rattle.std.proofs.lemmas.List.{take_all}
use Rattle.feature_store.specs.Indexed.{index_entry}
use Rattle.feature_store.specs.Inside.{entry_data, entries_data}
use Rattle.feature_store.proofs.Boxes.{no_boxes, boxes_more}
use Rattle.feature_store.proofs.Entries.{entries_more}
use Rattle.feature_store.proofs.feature_boxes.append_entries.Goals as goal

pub loop-entry-init : goal.loop-entry-init
loop-entry-init c = no_boxes c.args.boxes.now.items

pub loop-entry-preserved : goal.loop-entry-preserved
loop-entry-preserved c =
    let before = entries_data (take c.loop-entry.entry-index c.args.entries.now) in
    let more = entries_more c.args.entries.now c.loop-entry.entry-index c.entry-item.result [] before _ c.loop-entry-test.true c.entry-item.is refl refl in
    boxes_more before (entry_data c.entry-item.result ∷ []) _ c.args.boxes.now.items c.loop-entry.boxes.items c.push.new.self.items more
    c.loop-entry.invariant (c.in_ok-push.ensures.items
    ∙ ap (λ x. c.loop-entry.boxes.items ++ x ∷ []) (c.index_entry.ensures ∙ ap (λ f. index_entry (c.entry-item.result.0, f)) c.view.ensures))

pub returns : goal.returns
returns c =
    subst (λ es. c.loop-entry.boxes.items ≡ c.args.boxes.now.items ++ map index_entry (entries_data es))
    (take_all c.loop-entry.entry-index c.args.entries.now (omega (arith, c.loop-entry-test.false))) c.loop-entry.invariant
