use Rattle.std.proofs.Common.{List, [], Some, None, refl, sym, ap, ◌∙◌, append-nil, arith}
use Rattle.feature_store.specs.InBox.{in_box}
use Rattle.feature_store.specs.Store.{feature_from}
use Rattle.map_replies.proofs.BoxLemmas.{are_from, found_at, number_at, below_count, past_count, listed_more, full_page, whole_page}
use Rattle.map_replies.proofs.boxes.add_found.Goals as goal

pub loop-number-init : goal.loop-number-init
loop-number-init g c = λ bounds id is.
    record { texts = sym (append-nil c.args.text.now.items); some = refl; left_is = refl; within = tt }

pub loop-number-preserved : goal.loop-number-preserved
loop-number-preserved g c = λ bounds id is.
    let so = c.loop-number.invariant bounds id is in
    let m = c.args.service.now.features in
    let es = in_box bounds is.features in
    let k = c.loop-number.number-index in
    let lt = below_count es _ k (c.deref-number-items.ensures.value ∙ is.numbers) c.loop-number-test.true in
    let at = found_at m bounds id is.features is.next (are_from m id is.features is.next is.are_next) k lt in
    let number = number_at es _ k 0 at.entry (c.deref-number-items.ensures.value ∙ is.numbers) lt at.is in
    let added = c.in_ok-size.ensures at.entry (ap (feature_from m) number ∙ at.found) in
    let size = added.1 in
    listed_more es k at.entry c.args.text.now.items c.loop-number.text.items c.add_numbered.new.text.items c.loop-number.left
    c.saturating_sub-left.result c.loop-number.more lt (at.is at.entry) (omega (arith, c.if-left-eq0.false))
    (omega (arith, c.saturating_sub-left.ensures, size)) added.0 so

-- the page is full
pub returns-then-left-eq0 : goal.returns-then-left-eq0
returns-then-left-eq0 g c = λ bounds id is.
    let so = c.loop-number.invariant bounds id is in
    let m = c.args.service.now.features in
    let es = in_box bounds is.features in
    let k = c.loop-number.number-index in
    let lt = below_count es _ k (c.deref-number-items.ensures.value ∙ is.numbers) c.loop-number-test.true in
    let at = found_at m bounds id is.features is.next (are_from m id is.features is.next is.are_next) k lt in
    let page = full_page es at.front (in_box bounds at.front) (Some at.entry) k c.args.text.now.items c.loop-number.text.items c.loop-number.left
    c.loop-number.more at.before so (omega (arith, c.if-left-eq0.true)) in
    (at.front, Some at.entry, at.from, page.0, page.1, ap Some (number_at es _ k 0 at.entry (c.deref-number-items.ensures.value ∙ is.numbers) lt at.is))

pub returns : goal.returns
returns g c = λ bounds id is.
    let so = c.loop-number.invariant bounds id is in
    let m = c.args.service.now.features in
    let es = in_box bounds is.features in
    let k = c.loop-number.number-index in
    let page = whole_page es is.features is.next _ k c.args.text.now.items c.loop-number.text.items c.loop-number.left c.loop-number.more
    (past_count es _ k (c.deref-number-items.ensures.value ∙ is.numbers) (omega (arith, c.loop-number-test.false))) so is.next_is is.many in
    (is.features, is.next, are_from m id is.features is.next is.are_next, page.0, page.1, is.next_is)
