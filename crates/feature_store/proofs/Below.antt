-- The tiles of a map below an id, ascending: none below 0, with the next tile, and all of them.
use Rattle.std.proofs.Common.{◌≡◌, ◌≢◌, ℕ, zero, suc, ◌+◌, ◌<◌, ◌≤◌, List, [], ◌∷◌, ◌++◌, length, get_or, All}
use Rattle.std.proofs.Common.{refl, sym, ap, subst, ◌∙◌}
use Rattle.std.proofs.Common.{arith, inl, inr}
use Rattle.std.specs.List.{AllByRecursion, Contains}
use Rattle.std.specs.List.Sorted.{IsStrictlySortedBy}
use Rattle.std.specs.Map.{keys_of}
use Rattle.std.specs.Ordering.{nat_cmp}
use Rattle.std.specs.declared.cmp.Ordering.TheVariants.{Less}
use Rattle.std.proofs.lemmas.Bool.{cases_lt}
use Rattle.std.proofs.lemmas.Bool.Decides.{nat_tests}
use Rattle.std.proofs.lemmas.List.{length-map, map-append}
use Rattle.std.proofs.lemmas.List.Elements.{All-nil, All-cons, All-head, All-tail, All-append, All-weaker}
use Rattle.std.proofs.lemmas.List.Elements.{Contains-append_left}
use Rattle.std.proofs.lemmas.List.Elements.{Contains-push}
use Rattle.hilbert_id.specs.Curve.{IsTileId}
use Rattle.hilbert_id.proofs.Ids.{one_tile_of}
use Rattle.mvt_write.specs.Written.{written}
use Rattle.feature_store.specs.Layers.{layers}
use Rattle.feature_store.specs.Store.{FeatureMap}
use Rattle.feature_store.specs.Tiles.{IsTile, AreTiles, AreTilesBelow, ShowsNothingFrom, IsNextTile}

-- ---- ascending numbers

-- a number after lower ones
sorted_push : (ns : List ℕ) (n : ℕ) → IsStrictlySortedBy nat_cmp ns → All (λ k. k < n) ns → IsStrictlySortedBy nat_cmp (ns ++ n ∷ [])
unfolding IsStrictlySortedBy
sorted_push [] n s low = (tt, tt)
sorted_push (k ∷ ns) n s low = (along ns s.0, sorted_push ns n s.1 (All-tail (λ j. j < n) k ns low))
  where
    last : nat_cmp k n ≡ Less
    last = let lt = All-head (λ j. j < n) k ns low in grind (arith, nat_tests)

    along : (js : List ℕ) → AllByRecursion (λ j. nat_cmp k j ≡ Less) js → AllByRecursion (λ j. nat_cmp k j ≡ Less) (js ++ n ∷ [])
    along [] a = (last, tt)
    along (j ∷ js) a = (a.0, along js a.1)

pub no_numbers : IsStrictlySortedBy nat_cmp []
unfolding IsStrictlySortedBy
no_numbers = tt

-- ---- the tiles below an id

module _ (m : FeatureMap) where
  -- no tile is below id 0
  pub none_below : AreTilesBelow m 0 []
  none_below = record {
    ascending = no_numbers;
    each = All-nil (λ t. (t.0 < 0) × IsTile m t);
    every = λ z x y id is lt some. absurd (omega (arith, lt));
  }

  keys_below : (id : ℕ) (ts : List (ℕ × List ℕ)) → All (λ t. (t.0 < id) × IsTile m t) ts → All (λ k. k < id) (keys_of ts)
  keys_below id [] all = All-nil (λ k. k < id)
  keys_below id (t ∷ ts) all =
      All-cons (λ k. k < id) t.0 (keys_of ts) (All-head (λ u. (u.0 < id) × IsTile m u) t ts all).0
      (keys_below id ts (All-tail (λ u. (u.0 < id) × IsTile m u) t ts all))

  raised : (a b : ℕ) (ts : List (ℕ × List ℕ)) → a ≤ b → All (λ t. (t.0 < a) × IsTile m t) ts → All (λ t. (t.0 < b) × IsTile m t) ts
  raised a b ts le all = All-weaker (λ t. (t.0 < a) × IsTile m t) (λ t. (t.0 < b) × IsTile m t) (λ t h. let lt = h.0 in (omega arith, h.1)) ts all

  -- tiles of one id have the same layers
  pub the_place : (z x y w a b id : ℕ) → IsTileId z x y id → IsTileId w a b id → layers m w a b ≡ layers m z x y
  the_place z x y w a b id is other =
      let one = one_tile_of w a b z x y id other is in
      ap (λ k. layers m k a b) one.0 ∙ ap (λ k. layers m z k b) one.1 ∙ ap (λ k. layers m z x k) one.2

  -- a tile that shows something isn't among those that show nothing
  some_shown : (z x y : ℕ) → 0 < length (layers m z x y) → layers m z x y ≡ [] → ⊥
  some_shown z x y some none = omega (arith, some, ap length none)

  -- with the next tile
  pub one_more : (from : ℕ) (ts : List (ℕ × List ℕ)) (t : ℕ × List ℕ) → AreTilesBelow m from ts → IsNextTile m from t
      → AreTilesBelow m (t.0 + 1) (ts ++ t ∷ [])
  one_more from ts t below next =
      let here = next.here in
      let keys : keys_of (ts ++ t ∷ []) ≡ keys_of ts ++ t.0 ∷ [] = map-append (λ (u : ℕ × List ℕ). u.0) ts (t ∷ []) in
      let less : All (λ k. k < t.0) (keys_of ts) = keys_below t.0 ts (raised from t.0 ts here below.each) in
      record {
        ascending = subst (IsStrictlySortedBy nat_cmp) (sym keys) (sorted_push (keys_of ts) t.0 below.ascending less);
        each =
            All-append (λ u. (u.0 < t.0 + 1) × IsTile m u) ts (t ∷ []) (raised from (t.0 + 1) ts (omega (arith, here)) below.each)
            (All-cons (λ u. (u.0 < t.0 + 1) × IsTile m u) t [] (omega arith, next.tile) (All-nil (λ u. (u.0 < t.0 + 1) × IsTile m u)));
        every = λ z x y id is lt some. subst (λ ks. Contains ks id) (sym keys) (elim (cases_lt id from) [
          | inl low ↦ Contains-append_left (keys_of ts) (t.0 ∷ []) id (below.every z x y id is low some)
          | inr ge ↦ elim (cases_lt id t.0) [
            | inl under ↦ absurd (some_shown z x y some (next.between z x y id is ge under))
            | inr at ↦ let same : t.0 ≡ id = omega (arith, lt) in subst (Contains (keys_of ts ++ t.0 ∷ [])) same (Contains-push (keys_of ts) t.0)
          ]
        ]);
      }

  -- where none is left
  pub none_left : (from : ℕ) (ts : List (ℕ × List ℕ)) → AreTilesBelow m from ts → ShowsNothingFrom m from → AreTiles m ts
  none_left from ts below none = record {
    ascending = below.ascending;
    each = All-weaker (λ t. (t.0 < from) × IsTile m t) (IsTile m) (λ t h. h.1) ts below.each;
    every = λ z x y id is some. elim (cases_lt id from) [
      | inl low ↦ below.every z x y id is low some
      | inr ge ↦ absurd (some_shown z x y some (none z x y id is ge))
    ];
  }

-- ---- they are the first of all tiles

-- a number among ascending ones isn't below the first
pub first_least : (k n : ℕ) (ns : List ℕ) → IsStrictlySortedBy nat_cmp (k ∷ ns) → Contains (k ∷ ns) n → k ≤ n
unfolding IsStrictlySortedBy
first_least k n ns sorted (zero, lt, is) = omega (arith, is)
first_least k n ns sorted (suc i, lt, is) = least ns sorted.0 i (omega (arith, lt)) is
  where
    least : (js : List ℕ) → AllByRecursion (λ j. nat_cmp k j ≡ Less) js → (i : ℕ) → i < length js → get_or js i n ≡ n → k ≤ n
    least [] all i within is = absurd (omega (arith, within))
    least (j ∷ js) all zero within is = let less = all.0 in let same : j ≡ n = is in grind (arith, nat_tests)
    least (j ∷ js) all (suc i) within is = least js all.1 i (omega (arith, within)) is

-- and if it isn't the first, it is one of the others
pub not_first : (k n : ℕ) (ns : List ℕ) → k ≢ n → Contains (k ∷ ns) n → Contains ns n
not_first k n ns other (zero, lt, is) = absurd (other is)
not_first k n ns other (suc i, lt, is) = (i, omega (arith, lt), is)

pub sorted_tail : (k : ℕ) (ns : List ℕ) → IsStrictlySortedBy nat_cmp (k ∷ ns) → IsStrictlySortedBy nat_cmp ns
unfolding IsStrictlySortedBy
sorted_tail k ns sorted = sorted.1

pub above_first : (k n : ℕ) (ns : List ℕ) → IsStrictlySortedBy nat_cmp (k ∷ ns) → Contains ns n → k < n
unfolding IsStrictlySortedBy
above_first k n ns sorted (i, lt, is) = above ns sorted.0 i lt is
  where
    above : (js : List ℕ) → AllByRecursion (λ j. nat_cmp k j ≡ Less) js → (i : ℕ) → i < length js → get_or js i n ≡ n → k < n
    above [] all i within is = absurd (omega (arith, within))
    above (j ∷ js) all zero within is = let less = all.0 in let same : j ≡ n = is in grind (arith, nat_tests)
    above (j ∷ js) all (suc i) within is = above js all.1 i (omega (arith, within)) is

pub key_there : (ts : List (ℕ × List ℕ)) (k : ℕ) (d : ℕ × List ℕ) → k < length ts → Contains (keys_of ts) (get_or ts k d).0
key_there ts k d within = (k, omega (arith, within, length-map ts (λ (t : ℕ × List ℕ). t.0)), key_is ts k d within (get_or ts k d).0)
  where
    key_is : (us : List (ℕ × List ℕ)) (k : ℕ) (d : ℕ × List ℕ) → k < length us → (n : ℕ) → get_or (keys_of us) k n ≡ (get_or us k d).0
    key_is [] k d lt n = absurd (omega (arith, lt))
    key_is (u ∷ us) zero d lt n = refl
    key_is (u ∷ us) (suc k) d lt n = key_is us k d (omega (arith, lt)) n

module _ (m : FeatureMap) (end : ℕ) where
  -- all tiles from an id on that are below the end
  record AreFrom (start : ℕ) (ts : List (ℕ × List ℕ)) : Type 0 where
    ascending : IsStrictlySortedBy nat_cmp (keys_of ts)
    each : All (λ t. (start ≤ t.0) × ((t.0 < end) × IsTile m t)) ts
    every : (z x y id : ℕ) → IsTileId z x y id → start ≤ id → id < end → 0 < length (layers m z x y) → Contains (keys_of ts) id

  -- all tiles from an id on
  record AreAllFrom (start : ℕ) (ts : List (ℕ × List ℕ)) : Type 0 where
    ascending : IsStrictlySortedBy nat_cmp (keys_of ts)
    each : All (λ t. (start ≤ t.0) × IsTile m t) ts
    every : (z x y id : ℕ) → IsTileId z x y id → start ≤ id → 0 < length (layers m z x y) → Contains (keys_of ts) id

  -- two tiles of the map with one id are the same
  same_tile : (t u : ℕ × List ℕ) → IsTile m t → IsTile m u → t.0 ≡ u.0 → t ≡ u
  same_tile t u (z, x, y, place, some, is) (w, a, b, other, more, are) id =
      let layers_are = the_place m z x y w a b u.0 (subst (IsTileId z x y) id place) other in
      let bytes : t.1 ≡ u.1 = is ∙ ap written (sym layers_are) ∙ sym are in
      λ i. (id i, bytes i)

  -- one tile less
  rest_from : (start : ℕ) (t : ℕ × List ℕ) (ts : List (ℕ × List ℕ)) → AreFrom start (t ∷ ts) → AreFrom (t.0 + 1) ts
  rest_from start t ts are = record {
    ascending = sorted_tail t.0 (keys_of ts) are.ascending;
    each = λ k d within. (
      (let above = above_first t.0 (get_or ts k d).0 (keys_of ts) are.ascending (key_there ts k d within) in omega (arith, above)),
      (All-tail (λ u. (start ≤ u.0) × ((u.0 < end) × IsTile m u)) t ts are.each k d within).1,
    );
    every = λ z x y id is ge lt some. not_first t.0 id (keys_of ts) (λ same. omega (arith, same, ge))
        (are.every z x y id is (let low = (All-head (λ u. (start ≤ u.0) × ((u.0 < end) × IsTile m u)) t ts are.each).0 in omega (arith, low, ge)) lt some);
  }

  rest_all : (start : ℕ) (t : ℕ × List ℕ) (ts : List (ℕ × List ℕ)) → AreAllFrom start (t ∷ ts) → AreAllFrom (t.0 + 1) ts
  rest_all start t ts are = record {
    ascending = sorted_tail t.0 (keys_of ts) are.ascending;
    each = λ k d within. (
      (let above = above_first t.0 (get_or ts k d).0 (keys_of ts) are.ascending (key_there ts k d within) in omega (arith, above)),
      (All-tail (λ u. (start ≤ u.0) × IsTile m u) t ts are.each k d within).1,
    );
    every = λ z x y id is ge some. not_first t.0 id (keys_of ts) (λ same. omega (arith, same, ge))
        (are.every z x y id is (let low = (All-head (λ u. (start ≤ u.0) × IsTile m u) t ts are.each).0 in omega (arith, low, ge)) some);
  }

  first_tiles : (start : ℕ) (ts all : List (ℕ × List ℕ)) → AreFrom start ts → AreAllFrom start all
      → (behind : List (ℕ × List ℕ)) × (all ≡ ts ++ behind)
  first_tiles start [] all are whole = (all, refl)
  first_tiles start (t ∷ ts) [] are whole =
      let head = All-head (λ u. (start ≤ u.0) × ((u.0 < end) × IsTile m u)) t ts are.each in
      let tile = head.1.1 in
      let there = whole.every tile.0 tile.1 tile.2 t.0 tile.3 head.0 tile.4 in
      absurd (omega (arith, there.1))
  first_tiles start (t ∷ ts) (a ∷ all) are whole =
      let head = All-head (λ u. (start ≤ u.0) × ((u.0 < end) × IsTile m u)) t ts are.each in
      let tile = head.1.1 in
      let low = first_least a.0 t.0 (keys_of all) whole.ascending (whole.every tile.0 tile.1 tile.2 t.0 tile.3 head.0 tile.4) in
      let first = All-head (λ u. (start ≤ u.0) × IsTile m u) a all whole.each in
      let other = first.1 in
      let under = head.1.0 in
      let high = first_least t.0 a.0 (keys_of ts) are.ascending
      (are.every other.0 other.1 other.2 a.0 other.3 first.0 (omega (arith, low, under)) other.4) in
      let same : a ≡ t = same_tile a t other tile (omega (arith, low, high)) in
      let at : a.0 + 1 ≡ t.0 + 1 = ap (λ (u : ℕ × List ℕ). u.0 + 1) same in
      let rest = first_tiles (t.0 + 1) ts all (rest_from start t ts are) (subst (λ (n : ℕ). AreAllFrom n all) at (rest_all start a all whole)) in
      (rest.0, ap (λ (u : ℕ × List ℕ). u ∷ all) same ∙ ap (λ (us : List (ℕ × List ℕ)). t ∷ us) rest.1)

  -- the tiles below an id are the first of all
  pub first_of_all : (ts all : List (ℕ × List ℕ)) → AreTilesBelow m end ts → AreTiles m all → (behind : List (ℕ × List ℕ)) × (all ≡ ts ++ behind)
  first_of_all ts all below are =
      first_tiles 0 ts all
      (record {
        ascending = below.ascending;
        each = All-weaker (λ t. (t.0 < end) × IsTile m t) (λ t. (0 ≤ t.0) × ((t.0 < end) × IsTile m t)) (λ t h. (omega arith, h)) ts below.each;
        every = λ z x y id is ge lt some. below.every z x y id is lt some;
      })
      (record {
        ascending = are.ascending;
        each = All-weaker (IsTile m) (λ t. (0 ≤ t.0) × IsTile m t) (λ t h. (omega arith, h)) all are.each;
        every = λ z x y id is ge some. are.every z x y id is some;
      })
