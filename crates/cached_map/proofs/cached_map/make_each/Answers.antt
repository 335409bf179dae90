use Rattle.std.proofs.Common.{◌≡◌, ◌∙◌, List, [], ◌∷◌, ◌++◌, length, map, refl, sym, ap, subst, append_assoc, append-nil, arith}
use Rattle.std.proofs.lemmas.List.{map-append}
use Rattle.std.specs.Vec.Iter.{into_iter_items}
use Rattle.feature_store.specs.Prepared.{prepared_data}
use Rattle.feature_model.specs.Spelled.{spelled_changes}
use Rattle.feature_store.specs.Store.{changed, edited, snapshot, puts_in}
use Rattle.tile_cache.specs.Touched.{Remembers, StaysElsewhere}
use Rattle.cached_map.specs.Cached.{marks_of, marks_after}
use Rattle.cached_map.proofs.Edits.{changed_short, texts_on, puts_first, marks_push, edited_push}
use Rattle.cached_map.proofs.cached_map.make_each.Goals as goal

pub make_one-requires-clause-texts : goal.make_one-requires-clause-texts
make_one-requires-clause-texts c =
    let change = prepared_data c.in-Some.change in
    let rest = map prepared_data (into_iter_items c.next.new.self) in
    omega (
      arith,
      c.loop-change.invariant.short,
      changed_short c.loop-change.store.features change,
      texts_on change rest,
      ap (λ l. length (spelled_changes (map prepared_data l))) c.in-Some.ensures.steps.0,
    )

pub loop-change-preserved : goal.loop-change-preserved
loop-change-preserved c =
    let inv = c.loop-change.invariant in
    let steps = c.in-Some.ensures.steps in
    let yielded = c.loop-change.yielded in
    let done = map prepared_data yielded in
    let change = prepared_data c.in-Some.change in
    let left = into_iter_items c.next.new.self in
    let rest = map prepared_data left in
    let first = c.args.store.now.features in
    let number = c.args.number in
    let one_more = sym (map-append prepared_data yielded (c.in-Some.change ∷ [])) in
    record {
      can_next = tt;
      is_finite = tt;
      items = append_assoc yielded (c.in-Some.change ∷ []) left ∙ ap (λ l. yielded ++ l) (sym steps.0) ∙ inv.items;
      left = omega (arith, steps.1, ap length steps.0, inv.left);
      map_is = c.make_one.ensures.map ∙ ap (λ m. changed m change) inv.map_is ∙ sym (edited_push first done change) ∙ ap (edited first) one_more;
      marks = λ marks remembers. subst (Remembers c.make_one.new.touched)
          (ap (λ m. marks_of m change number (marks_after first done number marks)) inv.map_is ∙ sym (marks_push first done change number marks)
          ∙ ap (λ cs. marks_after first cs number marks) one_more)
          (c.make_one.ensures.marks (marks_after first done number marks) (inv.marks marks remembers));
      stays = λ marks start stay. subst (λ ms. StaysElsewhere ms start c.make_one.new.touched)
          (ap (λ m. marks_of m change number (marks_after first done number marks)) inv.map_is ∙ sym (marks_push first done change number marks)
          ∙ ap (λ cs. marks_after first cs number marks) one_more)
          (c.make_one.ensures.stays (marks_after first done number marks) start (inv.stays marks start stay));
      moment = c.make_one.ensures.moment ∙ inv.moment;
      as_of = λ is. c.make_one.ensures.as_of (inv.as_of is);
      room = omega (
        arith,
        inv.room,
        c.make_one.ensures.spare,
        puts_first change rest,
        ap (λ l. puts_in (map prepared_data l)) steps.0,
      );
      short = omega (
        arith,
        inv.short,
        changed_short c.loop-change.store.features change,
        texts_on change rest,
        ap (λ l. length (spelled_changes (map prepared_data l))) steps.0,
        ap (λ m. length (snapshot m)) c.make_one.ensures.map,
      );
    }

nothing_left : {A : Type 0} (xs : List A) → length xs ≡ 0 → xs ≡ []
nothing_left [] none = refl
nothing_left (x ∷ xs) none = absurd (omega (arith, none))

pub returns-clause-stays : goal.returns-clause-stays
returns-clause-stays c marks first before =
    let inv = c.loop-change.invariant in
    let m = c.args.store.now.features in
    let yielded = c.loop-change.yielded in
    let empty = nothing_left (into_iter_items c.loop-change.change-iterator) (sym inv.left ∙ c.in-None.ensures.steps.0) in
    let all = sym (append-nil yielded) ∙ ap (λ l. yielded ++ l) (sym empty) ∙ inv.items in
    subst (λ l. StaysElsewhere (marks_after m (map prepared_data l) c.args.number marks) first c.loop-change.touched) all (inv.stays marks first before)

pub returns-clause-map : goal.returns-clause-map
returns-clause-map c =
    let inv = c.loop-change.invariant in
    let yielded = c.loop-change.yielded in
    let empty = nothing_left (into_iter_items c.loop-change.change-iterator) (sym inv.left ∙ c.in-None.ensures.steps.0) in
    let all = sym (append-nil yielded) ∙ ap (λ l. yielded ++ l) (sym empty) ∙ inv.items in
    inv.map_is ∙ ap (λ l. edited c.args.store.now.features (map prepared_data l)) all

pub returns-clause-marks : goal.returns-clause-marks
returns-clause-marks c marks before =
    let inv = c.loop-change.invariant in
    let m = c.args.store.now.features in
    let yielded = c.loop-change.yielded in
    let empty = nothing_left (into_iter_items c.loop-change.change-iterator) (sym inv.left ∙ c.in-None.ensures.steps.0) in
    let all = sym (append-nil yielded) ∙ ap (λ l. yielded ++ l) (sym empty) ∙ inv.items in
    subst (λ l. Remembers c.loop-change.touched (marks_after m (map prepared_data l) c.args.number marks)) all (inv.marks marks before)
