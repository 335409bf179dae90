-- Tags, two indices at a time.
use Rattle.std.proofs.Common.{◌≡◌, ℕ, Bool, true, false, cond, eqb, ◌<◌, ◌≤◌, List, [], ◌∷◌, ◌++◌, length, drop, get_or, Ok, Err, refl, sym, ap, ◌∙◌, arith}
use Rattle.std.specs.Prelude.{not, slice_get, ◌==◌, ◌||◌}
use Rattle.std.specs.Ordering.{nat_cmp, is_eq}
use Rattle.std.specs.Cmp.Lexicographic.{slice_cmp}
use Rattle.std.specs.Str.{bytes_eq}
use Rattle.std.specs.Borrow.{Bor}
use Rattle.std.proofs.lemmas.Map.Text.{is_eq-slice_cmp}
use Rattle.std.specs.BTreeSet.{BTreeSet, contains_by, Updates}
use Rattle.std.specs.List.{list_any}
use Rattle.reader.specs.Reading.{Read}
use Rattle.mvt_layer.specs.declared.fault.TileFault.{TileFault}
use Rattle.mvt_layer.specs.declared.fault.TileFault.TheVariants as faults
use Rattle.mvt_layer.specs.declared.used_keys.UsedKeys.{UsedKeys}
use Rattle.mvt_layer.specs.Tile.{TagView, Tagged, LayerView}
use Rattle.mvt_layer.specs.Reading.{any_of, has_number, found_tag, tag_at, tags_at, has_name}
use Rattle.mvt_layer.specs.Used.{uses, UsesMore}

-- whether a list has a number, after one more
any_push : {X : Type 0} (p : X → Bool) (xs : List X) (x : X) → any_of p (xs ++ x ∷ []) ≡ cond (p x) true (any_of p xs)
any_push p [] x = refl
any_push p (y ∷ ys) x = ap (cond (p y) true) (any_push p ys x) ∙ swap (p y) (p x) (any_of p ys)
  where
    swap : (a b c : Bool) → cond a true (cond b true c) ≡ cond b true (cond a true c)
    swap true true c = refl
    swap true false c = refl
    swap false b c = refl

-- std's test of a list is this one
any_same : {X : Type 0} (p : X → Bool) (xs : List X) → list_any p xs ≡ any_of p xs
any_same p [] = refl
any_same p (x ∷ xs) = elim (p x) as (λ b. (b || list_any p xs) ≡ cond b true (any_of p xs)) [ true ↦ refl | false ↦ any_same p xs ]

-- ---- used key indices, the first ones in a list and the others in a set

pub used_few : (few : List ℕ) (k : ℕ) (here other : Bool) → here ≡ list_any (λ m. m == k) few → here ≡ true → here ≡ (has_number few k || other)
used_few few k here other is found =
    let there : has_number few k ≡ true = sym (is ∙ any_same (λ m. m == k) few) ∙ found in
    rw (there, found) refl

pub used_many : (few : List ℕ) (k : ℕ) (here other rest : Bool) → here ≡ list_any (λ m. m == k) few → here ≡ false → rest ≡ other
    → rest ≡ (has_number few k || other)
used_many few k here other rest is none same =
    let away : has_number few k ≡ false = sym (is ∙ any_same (λ m. m == k) few) ∙ none in
    rw (away, same) refl

pub used_push : (few next : List ℕ) (k q : ℕ) (other : Bool) → next ≡ few ++ k ∷ []
    → (has_number next q || other) ≡ cond (eqb k q) true (has_number few q || other)
used_push few next k q other is =
    let one : has_number next q ≡ cond (eqb k q) true (has_number few q) = ap (λ ms. has_number ms q) is ∙ any_push (λ m. eqb m q) few k in
    rw one (either (eqb k q) (has_number few q))
  where
    either : (here there : Bool) → (cond here true there || other) ≡ cond here true (there || other)
    either true there = refl
    either false there = refl

-- the key indices are the numbers of the list
abbrev Holds : UsedKeys → List ℕ → Type 0
Holds keys used = (q : ℕ) → uses keys q ≡ has_number used q

holds_more : (old new : UsedKeys) (used : List ℕ) (k : ℕ) → Holds old used → UsesMore old new k → Holds new (used ++ k ∷ [])
holds_more old new used k same more = λ q. more q ∙ (ap (cond (eqb k q) true) (same q) ∙ sym (any_push (λ m. eqb m q) used k))

pub not_added : (b : Bool) → false ≡ not b → b ≡ true
not_added true e = refl
not_added false e = absurd cc

pub added : (b : Bool) → true ≡ not b → b ≡ false
added true e = absurd cc
added false e = refl

-- what is read so far: the key indices that were used, and what the whole reads as from here
pub record TagsSoFar (keys : List (List ℕ)) (values : List TagView) (set : UsedKeys) (before : List Tagged) (rest : List ℕ)
    (whole : Read TileFault (List Tagged)) : Type 0 where
  pub used : List ℕ
  pub same : Holds set used
  pub on : tags_at keys values used before rest ≡ whole

module _ (keys : List (List ℕ)) (values : List TagView) where
  pub tags_on : (set more : UsedKeys) (before : List Tagged) (t : Tagged) (rest : List ℕ) (whole : Read TileFault (List Tagged)) → 2 ≤ length rest
      → true ≡ not (uses set (get_or rest 0 0)) → UsesMore set more (get_or rest 0 0)
      → found_tag (slice_get keys (get_or rest 0 0)) (slice_get values (get_or rest 1 0)) ≡ Ok t → TagsSoFar keys values set before rest whole
      → TagsSoFar keys values more (before ++ t ∷ []) (drop 2 rest) whole
  unfolding tags_at tag_at
  tags_on set more before t [] whole some new adds e h = absurd (omega arith)
  tags_on set more before t (k ∷ []) whole some new adds e h = absurd (omega arith)
  tags_on set more before t (k ∷ v ∷ ns) whole some new adds e h =
      let fresh : has_number h.used k ≡ false = sym (h.same k) ∙ added (uses set k) new in
      let one : tags_at keys values h.used before (k ∷ v ∷ ns) ≡ tags_at keys values (h.used ++ k ∷ []) (before ++ t ∷ []) ns = rw (fresh, e) refl in
      record { used = h.used ++ k ∷ []; same = holds_more set more h.used k h.same adds; on = sym one ∙ h.on }

  pub tags_twice : (set : UsedKeys) (before : List Tagged) (rest : List ℕ) (whole : Read TileFault (List Tagged)) → 2 ≤ length rest
      → false ≡ not (uses set (get_or rest 0 0)) → TagsSoFar keys values set before rest whole → whole ≡ Err faults.Tag
  unfolding tags_at tag_at
  tags_twice set before [] whole some old h = absurd (omega arith)
  tags_twice set before (k ∷ []) whole some old h = absurd (omega arith)
  tags_twice set before (k ∷ v ∷ ns) whole some old h =
      let there : has_number h.used k ≡ true = sym (h.same k) ∙ not_added (uses set k) old in
      sym h.on ∙ rw there refl

  pub tags_fault : (set : UsedKeys) (before : List Tagged) (rest : List ℕ) (whole : Read TileFault (List Tagged)) → 2 ≤ length rest
      → true ≡ not (uses set (get_or rest 0 0)) → TagsSoFar keys values set before rest whole → (d : TileFault)
      → found_tag (slice_get keys (get_or rest 0 0)) (slice_get values (get_or rest 1 0)) ≡ Err d → whole ≡ Err d
  unfolding tags_at tag_at
  tags_fault set before [] whole some new h d e = absurd (omega arith)
  tags_fault set before (k ∷ []) whole some new h d e = absurd (omega arith)
  tags_fault set before (k ∷ v ∷ ns) whole some new h d e =
      let fresh : has_number h.used k ≡ false = sym (h.same k) ∙ added (uses set k) new in
      sym h.on ∙ rw (fresh, e) refl

  pub tags_odd : (set : UsedKeys) (before : List Tagged) (rest : List ℕ) (whole : Read TileFault (List Tagged)) → 0 < length rest → length rest < 2
      → TagsSoFar keys values set before rest whole → whole ≡ Err faults.Tag
  unfolding tags_at
  tags_odd set before [] whole some few h = absurd (omega arith)
  tags_odd set before (k ∷ []) whole some few h = sym h.on
  tags_odd set before (k ∷ v ∷ ns) whole some few h = absurd (omega arith)

  pub tags_done : (set : UsedKeys) (before : List Tagged) (rest : List ℕ) (whole : Read TileFault (List Tagged)) → length rest ≤ 0
      → TagsSoFar keys values set before rest whole → whole ≡ Ok before
  unfolding tags_at
  tags_done set before [] whole none h = sym h.on
  tags_done set before (k ∷ ns) whole none h = absurd (omega arith)

-- ---- layers with names

-- the set holds the names of the layers
abbrev pub HoldsNames : BTreeSet (Bor (List ℕ)) → List LayerView → Type 0
HoldsNames set ls = (q : List ℕ) → contains_by (λ k. slice_cmp nat_cmp q k.now) set ≡ has_name ls q

pub names_more : (old new : BTreeSet (Bor (List ℕ))) (ls : List LayerView) (l : LayerView) (name : Bor (List ℕ)) → name.now ≡ l.name → HoldsNames old ls
    → Updates (λ (x y : Bor (List ℕ)). slice_cmp nat_cmp x.now y.now) old new name true → HoldsNames new (ls ++ l ∷ [])
names_more old new ls l name is same adds = λ q.
    let k : Bor (List ℕ) = record { ref_ptr = (0, 0); now = q } in
    let here : is_eq (slice_cmp nat_cmp name.now q) ≡ bytes_eq l.name q = is_eq-slice_cmp name.now q ∙ ap (λ (n : List ℕ). bytes_eq n q) is in
    adds.0 k ∙ (ap (λ (b : Bool). cond b true (contains_by (λ k. slice_cmp nat_cmp q k.now) old)) here
    ∙ (ap (cond (bytes_eq l.name q) true) (same q) ∙ sym (any_push (λ (m : LayerView). bytes_eq m.name q) ls l)))
