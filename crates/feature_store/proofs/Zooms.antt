-- The tiles of a map that are left to make.
use Rattle.std.proofs.Common.{◌≡◌, ℕ, zero, suc, ◌+◌, ◌-◌, ◌<◌, ◌≤◌, Bool, true, false, List, [], ◌∷◌, length, get_or}
use Rattle.std.proofs.Common.{IsSome, refl, sym, ap, subst, ◌∙◌, arith, inl, inr, Option, Some, IfSome}
use Rattle.std.specs.List.{Contains}
use Rattle.std.specs.List.Sorted.{IsStrictlySortedBy}
use Rattle.std.specs.Map.{keys_of}
use Rattle.std.specs.Ordering.{nat_cmp}
use Rattle.std.specs.Cmp.Lexicographic.{slice_cmp}
use Rattle.std.proofs.lemmas.Bool.{cases_lt}
use Rattle.std.proofs.lemmas.Bool.Decides.{nat_tests}
use Rattle.std.proofs.lemmas.List.{nil_from_length}
use Rattle.std.proofs.lemmas.List.Elements.{All-nil, All-head, All-tail, All-weaker}
use Rattle.feature_model.specs.declared.limits.TheConstants.{MAX_ZOOM}
use Rattle.hilbert_id.specs.Curve.{IsTileId, first_id}
use Rattle.hilbert_id.proofs.Ids.{first_next, one_tile_of}
use Rattle.hilbert_id.proofs.Positions.{in_square, position_below}
use Rattle.tile_cutter.specs.Cut.{feature_cut}
use Rattle.tile_walk.specs.Boxes.{numbers_at, IsTileOf, AreTilesOf}
use Rattle.feature_store.specs.Boxes.{boxes_at}
use Rattle.feature_store.specs.Indexed.{ShowsAll}
use Rattle.feature_store.specs.Layers.{is_tile, layers, IsLayer}
use Rattle.feature_store.specs.Left.{IsTileBelow, AreLeft, AllStay}
use Rattle.feature_store.specs.Store.{FeatureMap, IsMap}
use Rattle.feature_store.specs.Tiles.{ShowsNothing, ShowsNothingFrom, HasPlace}
use Rattle.feature_store.proofs.Below.{no_numbers, first_least, not_first, sorted_tail, above_first, key_there}
use Rattle.feature_store.proofs.Boxes.{boxes_show}
use Rattle.feature_store.proofs.Unique.{is_the_list, outside}

-- ---- the ids of zooms

rises : (z more : ℕ) → first_id z ≤ first_id (more + z)
rises z zero = let same : zero + z ≡ z = omega arith in rw same (omega arith)
rises z (suc more) = let next : suc more + z ≡ suc (more + z) = omega arith in rw next (omega (arith, rises z more, first_next (more + z)))

-- the first ids of zooms ascend
first_rises : (z w : ℕ) → z ≤ w → first_id z ≤ first_id w
first_rises z w le = let same : (w - z) + z ≡ w = omega arith in subst (λ k. first_id z ≤ first_id k) same (rises z (w - z))

-- an id of a zoom is not before the zoom's first, and before the next zoom's
from_first : (z x y id : ℕ) → IsTileId z x y id → first_id z ≤ id
from_first z x y id is = let at = is.2 in omega (arith, at)

before_next : (z x y id : ℕ) → IsTileId z x y id → id < first_id (suc z)
before_next z x y id is = let at = is.2 in omega (arith, at, position_below z x y is.0 is.1, first_next z)

before_zoom : (z x y id end : ℕ) → IsTileId z x y id → z < end → id < first_id end
before_zoom z x y id end is lt = omega (arith, before_next z x y id is, first_rises (suc z) end lt)

-- ---- tiles that show nothing

no_names : IsStrictlySortedBy (slice_cmp nat_cmp) []
unfolding IsStrictlySortedBy
no_names = tt

-- where no number shows all, there are no layers
nothing_shown : (m : FeatureMap) (z x y : ℕ) → ShowsAll m z x y [] → layers m z x y ≡ []
nothing_shown m z x y shows = by (is_tile z x y) refl
  where
    by : (b : Bool) → is_tile z x y ≡ b → layers m z x y ≡ []
    by false is = outside m z x y is
    by true is =
        sym (is_the_list m z x y is [] (record {
          ascending = no_names;
          layers = All-nil (λ l. IsLayer m z x y l);
          every =
              All-weaker (λ e. IsSome (feature_cut e.1 z x y) → Contains [] e.0) (λ e. IsSome (feature_cut e.1 z x y) → Contains [] e.1.layer)
              (λ e none shown. absurd (omega (arith, (none shown).1))) m shows.every;
        }))

-- above the greatest zoom of a map nothing is shown
nothing_above : (m : FeatureMap) (z x y : ℕ) → MAX_ZOOM < z → layers m z x y ≡ []
nothing_above m z x y above = outside m z x y (grind (arith, nat_tests))

module _ (m : FeatureMap) (is_map : IsMap m) where
  abbrev numbers_of : ℕ → ℕ → ℕ → List ℕ
  numbers_of z x y = numbers_at (boxes_at z m) x y

  -- a tile that no box has shows nothing
  nothing_unboxed : (z x y id : ℕ) → IsTileId z x y id → length (numbers_of z x y) ≤ 0 → layers m z x y ≡ []
  nothing_unboxed z x y id is few =
      let inside = in_square z x y is.0 is.1 in
      let none : numbers_of z x y ≡ [] = nil_from_length (numbers_of z x y) (omega (arith, few)) in
      nothing_shown m z x y (subst (ShowsAll m z x y) none (boxes_show m z x y inside.0 inside.1 is_map))

  -- ---- the tiles that are left

  module _ (end from : ℕ) where
    -- a tile of the zooms that were begun, with an id from `from` on, shows nothing where its id isn't among those left
    nothing_passed : (ts : List (ℕ × List ℕ)) → AreLeft m end from ts → (z x y id : ℕ) → z < end → IsTileId z x y id → from ≤ id
        → (Contains (keys_of ts) id → ⊥) → layers m z x y ≡ []
    nothing_passed ts left z x y id lt is above nowhere = elim (cases_lt 0 (length (numbers_of z x y))) [
      | inl some ↦ absurd (nowhere (left.every z x y id lt is above some))
      | inr few ↦ nothing_unboxed z x y id is few
    ]

    -- where none is left of all zooms
    pub nothing_left : AreLeft m end from [] → end ≡ MAX_ZOOM + 1 → ShowsNothingFrom m from
    nothing_left left last z x y id is above = elim (cases_lt z end) [
      | inl lt ↦ nothing_passed [] left z x y id lt is above (λ c. omega (arith, c.1))
      | inr ge ↦ nothing_above m z x y (omega (arith, ge, last))
    ]

    module _ (t : ℕ × List ℕ) (ts : List (ℕ × List ℕ)) (left : AreLeft m end from (t ∷ ts)) where
      abbrev head : (from ≤ t.0) × IsTileBelow m end t
      head = All-head (λ u. (from ≤ u.0) × IsTileBelow m end u) t ts left.each

      pub from_below : from ≤ t.0
      from_below = head.0

      pub place_here : end ≤ MAX_ZOOM + 1 → HasPlace t.0
      place_here within =
          let tile = head.1 in
          let lt = tile.1 in
          (tile.0, tile.2.column, tile.2.row, omega (arith, lt, within), tile.2.is_id)

      -- it is before the zooms that weren't begun
      before_end : t.0 < first_id end
      before_end = let tile = head.1 in before_zoom tile.0 tile.2.column tile.2.row t.0 end tile.2.is_id tile.1

      pub nothing_between : ShowsNothing m from t.0
      nothing_between z x y id is above under = elim (cases_lt z end) [
        | inl lt ↦ nothing_passed (t ∷ ts) left z x y id lt is above (λ there.
            let least = first_least t.0 id (keys_of ts) left.ascending there in omega (arith, least, under))
        | inr ge ↦ absurd (omega (arith, before_end, first_rises end z ge, from_first z x y id is, under))
      ]

      pub shows_step : (z x y : ℕ) → z ≤ MAX_ZOOM → IsTileId z x y t.0 → ShowsAll m z x y t.1
      shows_step z x y zoom is =
          let tile = head.1 in
          let inside = in_square z x y is.0 is.1 in
          let one = one_tile_of z x y tile.0 tile.2.column tile.2.row t.0 is tile.2.is_id in
          let same : numbers_of z x y ≡ t.1 =
          ap (λ k. numbers_of k x y) one.0 ∙ ap (λ k. numbers_of tile.0 k y) one.1 ∙ ap (λ k. numbers_of tile.0 tile.2.column k) one.2 ∙ sym tile.2.numbers in
          subst (ShowsAll m z x y) same (boxes_show m z x y inside.0 inside.1 is_map)

      -- once it is made
      pub one_less : AreLeft m end (t.0 + 1) ts
      one_less = record {
        ascending = sorted_tail t.0 (keys_of ts) left.ascending;
        each = λ k d within. (
          (let above = above_first t.0 (get_or ts k d).0 (keys_of ts) left.ascending (key_there ts k d within) in omega (arith, above)),
          (All-tail (λ u. (from ≤ u.0) × IsTileBelow m end u) t ts left.each k d within).1,
        );
        every = λ z x y id lt is above some. not_first t.0 id (keys_of ts) (λ same. omega (arith, same, above))
            (left.every z x y id lt is (omega (arith, from_below, above)) some);
        reach = omega (arith, before_end);
      }

-- ---- from zoom to zoom

-- before the first zoom none is left
pub none_begun : (m : FeatureMap) → AreLeft m 0 0 []
none_begun m = record {
  ascending = no_numbers;
  each = All-nil (λ t. (0 ≤ t.0) × IsTileBelow m 0 t);
  every = λ z x y id lt is above some. absurd (omega (arith, lt));
  reach = omega arith;
}

-- where none is left of the zooms that were begun, the next zoom's are all
pub next_zoom : (m : FeatureMap) (end from : ℕ) → AreLeft m end from [] → (ts : List (ℕ × List ℕ)) → AreTilesOf end (boxes_at end m) ts
    → AreLeft m (end + 1) from ts
next_zoom m end from left ts are = record {
  ascending = are.ascending;
  each = All-weaker (IsTileOf end (boxes_at end m)) (λ t. (from ≤ t.0) × IsTileBelow m (end + 1) t)
      (λ t tile. (omega (arith, left.reach, from_first end tile.column tile.row t.0 tile.is_id), (end, omega arith, tile))) ts are.each;
  every = λ z x y id lt is above some. elim (cases_lt z end) [
    | inl before ↦ absurd (omega (arith, (left.every z x y id before is above some).1))
    | inr ge ↦ this_zoom z x y id (omega (arith, ge, lt)) is some
  ];
  reach = omega (arith, left.reach, first_rises end (end + 1) (omega arith));
}
  where
    this_zoom : (z x y id : ℕ) → z ≡ end → IsTileId z x y id → 0 < length (numbers_at (boxes_at z m) x y) → Contains (keys_of ts) id
    this_zoom z x y id same is some =
        are.every x y id (subst (λ k. IsTileId k x y id) same is) (subst (λ k. 0 < length (numbers_at (boxes_at k m) x y)) same some)

-- ---- from one state of the walks to the next

module _ (m : FeatureMap) (start end : ℕ) (old ts : List (ℕ × List ℕ)) (stay : AllStay m start old end ts) where
  pub stay_same : (new : List (ℕ × List ℕ)) → ts ≡ new → AllStay m start old end new
  stay_same new same from left = subst (AreLeft m end from) same (stay from left)

-- what is told where there is something
pub of_some : {X : Type 0} (P : X → Type 0) (o : Option X) (x : X) → o ≡ Some x → IfSome o P → P x
of_some P o x is told = subst (λ p. IfSome p P) is told

-- where none is left of all zooms
pub none_from : (m : FeatureMap) (is_map : IsMap m) (end from : ℕ) (ts : List (ℕ × List ℕ)) → (end ≡ MAX_ZOOM + 1) × (ts ≡ []) → AreLeft m end from ts
    → ShowsNothingFrom m from
none_from m is_map end from ts last left = nothing_left m is_map end from (subst (AreLeft m end from) last.1 left) last.0
