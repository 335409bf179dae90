use Rattle.std.proofs.Common.{◌∷◌, subst, sym, ◌∙◌, [], ap, arith}
use Rattle.feature_store.specs.Prepared.{prepared_data}
use Rattle.feature_store.specs.Store.{box_at, changed, puts_in}
use Rattle.tile_cache.specs.Touched.{StaysElsewhere, Remembers}
use Rattle.cached_map.specs.Cached.{with_box, marks_of}
use Rattle.cached_map.proofs.cached_map.make_one.Goals as goal

pub returns-in-Put-clause-stays : goal.returns-in-Put-clause-stays
returns-in-Put-clause-stays c marks first before =
    let m = c.args.store.now.features in
    let number = c.args.number in
    let boxes = c.place_keeping-boxes.result in
    let both = c.mark.ensures.stays (with_box boxes.before number marks) first (c.mark_some.ensures.stays marks first before) in
    let of_before = subst (λ o. StaysElsewhere ((boxes.after, number) ∷ with_box o number marks) first c.mark.new.self)
    c.place_keeping-boxes.ensures.before both in
    let of_both = subst (λ b. StaysElsewhere ((b, number) ∷ with_box (box_at m c.in-Put.stored.0) number marks) first c.mark.new.self)
    c.place_keeping-boxes.ensures.after of_before in
    subst (λ change. StaysElsewhere (marks_of m (prepared_data change) number marks) first c.mark.new.self) (sym c.in-Put.is) of_both

pub returns-in-Delete-clause-stays : goal.returns-in-Delete-clause-stays
returns-in-Delete-clause-stays c marks first before =
    let m = c.args.store.now.features in
    let number = c.args.number in
    let after = c.mark_some-in-Delete.new.touched in
    let of_box = subst (λ o. StaysElsewhere (with_box o number marks) first after) c.remove_keeping-bounds.ensures.bounds
    (c.mark_some-in-Delete.ensures.stays marks first before) in
    subst (λ change. StaysElsewhere (marks_of m (prepared_data change) number marks) first after) (sym c.in-Delete.is) of_box

pub returns-in-Put-clause-map : goal.returns-in-Put-clause-map
returns-in-Put-clause-map c = c.place_keeping-boxes.ensures.map ∙ sym (ap (λ change. changed c.args.store.now.features (prepared_data change)) c.in-Put.is)

pub returns-in-Put-clause-spare : goal.returns-in-Put-clause-spare
returns-in-Put-clause-spare c = omega (arith, c.place_keeping-boxes.ensures.spare, ap (λ change. puts_in (prepared_data change ∷ [])) c.in-Put.is)

pub returns-in-Put-clause-marks : goal.returns-in-Put-clause-marks
returns-in-Put-clause-marks c marks before =
    let m = c.args.store.now.features in
    let number = c.args.number in
    let boxes = c.place_keeping-boxes.result in
    let both = c.mark.ensures.remembers (with_box boxes.before number marks) (c.mark_some.ensures.remembers marks before) in
    let of_before = subst (λ o. Remembers c.mark.new.self ((boxes.after, number) ∷ with_box o number marks)) c.place_keeping-boxes.ensures.before both in
    let of_both = subst (λ b. Remembers c.mark.new.self ((b, number) ∷ with_box (box_at m c.in-Put.stored.0) number marks))
    c.place_keeping-boxes.ensures.after of_before in
    subst (λ change. Remembers c.mark.new.self (marks_of m (prepared_data change) number marks)) (sym c.in-Put.is) of_both

pub returns-in-Delete-clause-map : goal.returns-in-Delete-clause-map
returns-in-Delete-clause-map c = c.remove_keeping-bounds.ensures.map
    ∙ sym (ap (λ change. changed c.args.store.now.features (prepared_data change)) c.in-Delete.is)

pub returns-in-Delete-clause-spare : goal.returns-in-Delete-clause-spare
returns-in-Delete-clause-spare c = omega (arith, c.remove_keeping-bounds.ensures.spare)

pub returns-in-Delete-clause-marks : goal.returns-in-Delete-clause-marks
returns-in-Delete-clause-marks c marks before =
    let m = c.args.store.now.features in
    let number = c.args.number in
    let after = c.mark_some-in-Delete.new.touched in
    let of_box = subst (λ o. Remembers after (with_box o number marks)) c.remove_keeping-bounds.ensures.bounds
    (c.mark_some-in-Delete.ensures.remembers marks before) in
    subst (λ change. Remembers after (marks_of m (prepared_data change) number marks)) (sym c.in-Delete.is) of_box
