-- The numbers that an index has near a tile are those of which the tile shows something, and maybe others.
use Rattle.std.proofs.Common.{◌≡◌, ℕ, zero, suc, ◌<◌, Bool, true, false, cond, List, [], ◌∷◌, length, map}
use Rattle.std.proofs.Common.{get_or, All, None, IsSome, is_some, Result, Ok, Err, IfOk, refl, sym, ap, subst, ◌∙◌, arith}
use mathlib.Core.Bool.{false≢true}
use Rattle.std.specs.List.{Contains, AllByRecursion}
use Rattle.std.specs.List.Sorted.{IsPermutation, IsStrictlySortedBy, IsNonDecreasingBy}
use Rattle.std.specs.Option.{option_map}
use Rattle.std.specs.Ordering.{nat_cmp}
use Rattle.std.specs.declared.cmp.Ordering.TheVariants.{Less}
use Rattle.std.proofs.lemmas.Bool.Decides.{nat_tests}
use Rattle.std.proofs.lemmas.List.Elements.{All-nil, All-cons, All-head, All-tail, All-weaker}
use Rattle.number_map.specs.Blocks.{Ascends, AreAbove}
use Rattle.number_map.proofs.Numbers.{less}
use Rattle.number_map.proofs.Entries.{ascends_head, ascends_tail}
use Rattle.box_index.specs.declared.entry.IndexEntry.{IndexEntry}
use Rattle.box_index.specs.Shown.{shows, ids_shown}
use Rattle.feature_model.specs.Data.{FeatureData, put}
use Rattle.feature_model.specs.Types.{IsChange, LiesInWorld}
use Rattle.feature_model.specs.declared.feature.WorldBox.{WorldBox}
use Rattle.tile_cutter.specs.Cut.{has_zoom, geometry_cut, shown_with, feature_cut}
use Rattle.tile_cutter.specs.WorldBox.{bounding_box, Meets}
use Rattle.feature_store.specs.Indexed.{index_entry, IsIndexed, ShowsAll}
use Rattle.feature_store.specs.Store.{FeatureMap, IsMap}
use Rattle.feature_store.proofs.Listed.{contains_here, contains_on}

above_at : (n : ℕ) (m : FeatureMap) (j : ℕ) (d : IndexEntry) → AreAbove n m → j < length (map index_entry m) → n < (get_or (map index_entry m) j d).id
above_at n [] j d above lt = absurd (omega arith)
above_at n (e ∷ m) zero d above lt = above.0
above_at n (e ∷ m) (suc j) d above lt = above_at n m j d above.1 (omega arith)

-- the ids ascend as the numbers do
pub ids_rise : (m : FeatureMap) → Ascends m → IsNonDecreasingBy (λ (e : IndexEntry). e.id) (map index_entry m)
ids_rise [] up i j d le lt = absurd (omega arith)
ids_rise (e ∷ m) up zero zero d le lt = omega arith
ids_rise (e ∷ m) up zero (suc j) d le lt = let h = above_at e.0 m j d (ascends_head e m up) (omega arith) in omega arith
ids_rise (e ∷ m) up (suc i) zero d le lt = absurd (omega arith)
ids_rise (e ∷ m) up (suc i) (suc j) d le lt = ids_rise m (ascends_tail e m up) i j d (omega arith) (omega arith)

-- a tile of a zoom that a feature hasn't shows nothing of it
pub no_zoom : (f : FeatureData) (z x y : ℕ) → has_zoom f z ≡ false → feature_cut f z x y ≡ None
unfolding feature_cut
no_zoom f z x y none = ap (λ b. cond b (option_map (shown_with f.tags) (geometry_cut z x y f.geometry)) None) none

module _ (bounds : WorldBox) (z x y : ℕ) where
  -- the numbers of the entries that show
  abbrev near : FeatureMap → List ℕ
  near m = ids_shown bounds z (map index_entry m)

  abbrev is_near : ℕ × FeatureData → Bool
  is_near e = shows bounds z (index_entry e).span

  near_on : (e : ℕ × FeatureData) (m : FeatureMap) (b : Bool) → is_near e ≡ b → near (e ∷ m) ≡ cond b (e.0 ∷ near m) (near m)
  near_on e m true is = rw is refl
  near_on e m false is = rw is refl

  over_near : (n : ℕ) (m : FeatureMap) → AreAbove n m → AllByRecursion (λ k. nat_cmp n k ≡ Less) (near m)
  over_near n [] above = tt
  over_near n (e ∷ m) above = by (is_near e) refl (over_near n m above.1)
    where
      by : (b : Bool) → is_near e ≡ b → AllByRecursion (λ k. nat_cmp n k ≡ Less) (near m) → AllByRecursion (λ k. nat_cmp n k ≡ Less) (near (e ∷ m))
      by true is rest = subst (AllByRecursion (λ k. nat_cmp n k ≡ Less)) (sym (near_on e m true is)) (less n e.0 above.0, rest)
      by false is rest = subst (AllByRecursion (λ k. nat_cmp n k ≡ Less)) (sym (near_on e m false is)) rest

  near_ascend : (m : FeatureMap) → Ascends m → IsStrictlySortedBy nat_cmp (near m)
  unfolding IsStrictlySortedBy
  near_ascend [] up = tt
  near_ascend (e ∷ m) up = by (is_near e) refl (near_ascend m (ascends_tail e m up))
    where
      by : (b : Bool) → is_near e ≡ b → IsStrictlySortedBy nat_cmp (near m) → IsStrictlySortedBy nat_cmp (near (e ∷ m))
      by true is rest = subst (IsStrictlySortedBy nat_cmp) (sym (near_on e m true is)) (over_near e.0 m (ascends_head e m up), rest)
      by false is rest = subst (IsStrictlySortedBy nat_cmp) (sym (near_on e m false is)) rest

  module _ (apart : (f : FeatureData) → LiesInWorld f.geometry → ¬ Meets (bounding_box f.geometry) bounds → feature_cut f z x y ≡ None) where
    -- an entry that doesn't show has its box elsewhere, where it has the zoom
    elsewhere : (e : ℕ × FeatureData) → is_near e ≡ false → has_zoom e.1 z ≡ true → ¬ Meets (bounding_box e.1.geometry) bounds
    elsewhere e far zoom meets =
        let left = meets.left in
        let right = meets.right in
        let top = meets.top in
        let bottom = meets.bottom in
        grind (arith, nat_tests)

    nothing_far : (e : ℕ × FeatureData) → LiesInWorld e.1.geometry → is_near e ≡ false → feature_cut e.1 z x y ≡ None
    nothing_far e lies far = by (has_zoom e.1 z) refl
      where
        by : (b : Bool) → has_zoom e.1 z ≡ b → feature_cut e.1 z x y ≡ None
        by true zoom = apart e.1 lies (elsewhere e far zoom)
        by false zoom = no_zoom e.1 z x y zoom

    abbrev Finds : FeatureMap → ℕ × FeatureData → Type 0
    Finds m e = IsSome (feature_cut e.1 z x y) → Contains (near m) e.0

    every_near : (m : FeatureMap) → All (λ e. LiesInWorld e.1.geometry) m → All (Finds m) m
    every_near [] lies = All-nil (Finds [])
    every_near (e ∷ m) lies = by (is_near e) refl (every_near m (All-tail (λ d. LiesInWorld d.1.geometry) e m lies))
      where
        by : (b : Bool) → is_near e ≡ b → All (Finds m) m → All (Finds (e ∷ m)) (e ∷ m)
        by true is rest =
            let same = sym (near_on e m true is) in
            All-cons (Finds (e ∷ m)) e m (λ some. subst (λ ns. Contains ns e.0) same (contains_here e.0 (near m)))
            (All-weaker (Finds m) (Finds (e ∷ m)) (λ d finds some. subst (λ ns. Contains ns d.0) same (contains_on e.0 (near m) d.0 (finds some))) m rest)
        by false is rest =
            let same = sym (near_on e m false is) in
            let nothing = nothing_far e (All-head (λ d. LiesInWorld d.1.geometry) e m lies) is in
            All-cons (Finds (e ∷ m)) e m (λ some. absurd (false≢true (sym (ap is_some nothing) ∙ some)))
            (All-weaker (Finds m) (Finds (e ∷ m)) (λ d finds some. subst (λ ns. Contains ns d.0) same (finds some)) m rest)

    pub near_shows : (m : FeatureMap) (numbers : List ℕ) → IsMap m → numbers ≡ near m → ShowsAll m z x y numbers
    near_shows m numbers is_map is =
        let lies = All-weaker (λ e. IsChange (put e.0 e.1)) (λ e. LiesInWorld e.1.geometry) (λ e edit. edit.1.geometry) m is_map.edits in
        subst (ShowsAll m z x y) (sym is) (record { ascending = near_ascend m is_map.ascending; every = every_near m lies })

    -- what is found in the index
    pub found_near : {V E : Type 0} (items : V → List ℕ) (index : List IndexEntry) (r : Result V E)
        → IfOk r (λ v. (es : List IndexEntry) → IsPermutation es index → IsNonDecreasingBy (λ e. e.id) es → items v ≡ ids_shown bounds z es)
        → IfOk r (λ v. (m : FeatureMap) → IsMap m → IsIndexed m index → ShowsAll m z x y (items v))
    found_near items index (Ok v) found =
        λ m is_map indexed. near_shows m (items v) is_map (found (map index_entry m) indexed (ids_rise m is_map.ascending))
    found_near items index (Err e) found = tt
