-- The boxes that the features of a map have at a zoom: one feature after the other, and what a tile shows by them.
use Rattle.std.proofs.Common.{◌≡◌, ◌≢◌, ℕ, zero, suc, ◌+◌, ◌^◌, ◌<◌, Bool, true, false, cond, List, [], ◌∷◌, ◌++◌, length, get_or, take, drop, map}
use Rattle.std.proofs.Common.{IsSome, is_some, inl, inr, ◌⊎◌, refl, sym, ap, subst, ◌∙◌, append_assoc, arith, Option, None}
use mathlib.Core.Bool.{false≢true}
use Rattle.std.specs.List.{filter, AllByRecursion, Contains}
use Rattle.std.specs.List.Sorted.{IsStrictlySortedBy}
use Rattle.std.specs.Ordering.{nat_cmp}
use Rattle.std.specs.declared.cmp.Ordering.TheVariants.{Less}
use Rattle.std.proofs.lemmas.Bool.{cases_eq, cases_Bool}
use Rattle.std.proofs.Math.Seq.{take-add}
use Rattle.std.proofs.lemmas.List.{map-append, append-nil, take-map, take_all, take_more}
use Rattle.std.proofs.lemmas.List.Elements.{All-weaker, All-contains_itself, Contains-append_right, filter-append}
use Rattle.number_map.specs.Blocks.{Ascends, AreAbove}
use Rattle.number_map.proofs.Numbers.{less}
use Rattle.number_map.proofs.Entries.{ascends_head, ascends_tail}
use Rattle.box_index.specs.Shown.{shows, ids_shown}
use Rattle.box_index.specs.declared.entry.IndexEntry.{IndexEntry}
use Rattle.feature_model.specs.declared.feature.WorldBox.{WorldBox}
use Rattle.feature_model.specs.Data.{FeatureData}
use Rattle.mvt_layer.specs.Tile.{FeatureView}
use Rattle.tile_cutter.specs.Covered.{covered}
use Rattle.tile_cutter.specs.Cut.{has_zoom, feature_cut}
use Rattle.tile_cutter.proofs.Outside.{outside}
use Rattle.tile_cutter.proofs.WorldBox.{box_covered}
use Rattle.tile_walk.specs.declared.numbered.Numbered.{Numbered}
use Rattle.tile_walk.specs.Boxes.{numbers_at}
use Rattle.tile_walk.proofs.Laws.{numbers_ascend, number_stands}
use Rattle.feature_store.specs.Boxes.{AreFirst, box_of, boxes_at, is_at_zoom, tiles_of_box, boxes_in}
use Rattle.feature_store.specs.declared.feature_boxes.Covers.{Covers}
use Rattle.feature_store.specs.Indexed.{index_entry, ShowsAll}
use Rattle.feature_store.specs.Store.{FeatureMap, IsMap}
use Rattle.feature_store.proofs.Listed.{contains_here, contains_on}
use Rattle.feature_store.proofs.Near.{no_zoom}

-- ---- one feature after the other

pub no_boxes : (front : List IndexEntry) → front ≡ front ++ map index_entry []
no_boxes front = sym (append-nil front)

-- the boxes of a map so far, and of more of it
pub boxes_more : (a b both : FeatureMap) (front out next : List IndexEntry) → a ++ b ≡ both → out ≡ front ++ map index_entry a
    → next ≡ out ++ map index_entry b → next ≡ front ++ map index_entry both
boxes_more a b both front out next is before after =
    after ∙ ap (λ r. r ++ map index_entry b) before ∙ append_assoc front (map index_entry a) (map index_entry b)
    ∙ ap (λ r. front ++ r) (sym (map-append index_entry a b) ∙ ap (map index_entry) is)

-- ---- the tiles that they meet at a zoom

pub no_tiles : (zoom : ℕ) (front : List Numbered) → front ≡ front ++ boxes_in zoom []
unfolding boxes_in
no_tiles zoom front = sym (append-nil front)

tiles_both : (zoom : ℕ) (a b : List IndexEntry) → boxes_in zoom (a ++ b) ≡ boxes_in zoom a ++ boxes_in zoom b
unfolding boxes_in
tiles_both zoom a b =
    ap (map (tiles_of_box zoom)) (filter-append (is_at_zoom zoom) a b)
    ∙ map-append (tiles_of_box zoom) (filter (is_at_zoom zoom) a) (filter (is_at_zoom zoom) b)

-- those of the first boxes, and of one more
pub tiles_more : (zoom : ℕ) (es : List IndexEntry) (k : ℕ) (d : IndexEntry) (front out next : List Numbered) → k < length es
    → out ≡ front ++ boxes_in zoom (take k es) → next ≡ out ++ boxes_in zoom (get_or es k d ∷ []) → next ≡ front ++ boxes_in zoom (take (k + 1) es)
tiles_more zoom es k d front out next lt before after =
    let one = get_or es k d ∷ [] in
    rw (take_more es k d lt)
    (after ∙ ap (λ r. r ++ boxes_in zoom one) before ∙ append_assoc front (boxes_in zoom (take k es)) (boxes_in zoom one)
    ∙ ap (λ r. front ++ r) (sym (tiles_both zoom (take k es) one)))

-- the tiles that the boxes of features meet are those that the features cover
pub same_boxes : (zoom : ℕ) (m : FeatureMap) → boxes_in zoom (map index_entry m) ≡ boxes_at zoom m
unfolding boxes_in boxes_at
same_boxes zoom [] = refl
same_boxes zoom (e ∷ m) = by (has_zoom e.1 zoom) (same_boxes zoom m)
  where
    by : (b : Bool) → map (tiles_of_box zoom) (filter (is_at_zoom zoom) (map index_entry m)) ≡ map (box_of zoom) (filter (λ d. has_zoom d.1 zoom) m)
        → map (tiles_of_box zoom) (cond b (index_entry e ∷ filter (is_at_zoom zoom) (map index_entry m)) (filter (is_at_zoom zoom) (map index_entry m)))
        ≡ map (box_of zoom) (cond b (e ∷ filter (λ d. has_zoom d.1 zoom) m) (filter (λ d. has_zoom d.1 zoom) m))
    by true rest = λ i. record { range = box_covered e.1.geometry zoom i; number = e.0 } ∷ rest i
    by false rest = rest

-- the first of them
first_boxes : (zoom n : ℕ) (m : FeatureMap) (es : List IndexEntry) → es ≡ map index_entry m → boxes_in zoom (take n es) ≡ boxes_at zoom (take n m)
first_boxes zoom n m es is =
    ap (λ (l : List IndexEntry). boxes_in zoom (take n l)) is ∙ ap (boxes_in zoom) (take-map index_entry n m) ∙ same_boxes zoom (take n m)

-- the next ones
pub next_boxes : (zoom start count : ℕ) (m : FeatureMap) (es part : List IndexEntry) (old new : List Numbered) → es ≡ map index_entry m
    → part ≡ take count (drop start es) → old ≡ boxes_at zoom (take start m) → new ≡ old ++ boxes_in zoom part → new ≡ boxes_at zoom (take (start + count) m)
next_boxes zoom start count m es part old new is next before after =
    after ∙ ap (λ (r : List Numbered). r ++ boxes_in zoom part) (before ∙ sym (first_boxes zoom start m es is))
    ∙ ap (λ (r : List IndexEntry). boxes_in zoom (take start es) ++ boxes_in zoom r) next
    ∙ sym (tiles_both zoom (take start es) (take count (drop start es)))
    ∙ ap (boxes_in zoom) (sym (take-add start count es))
    ∙ first_boxes zoom (start + count) m es is

-- none is read yet
pub none_read : (zoom : ℕ) (m : FeatureMap) (c : Covers) → c.read ≡ 0 → c.tiles.items ≡ [] → AreFirst zoom m c
unfolding boxes_at
none_read zoom m c start none = record {
  few = omega (arith, start);
  within = omega (arith, start);
  tiles = none ∙ ap (λ (n : ℕ). map (box_of zoom) (filter (λ e. has_zoom e.1 zoom) (take n m))) (sym start);
}

-- all are read
pub all_read : (zoom : ℕ) (m : FeatureMap) (c : Covers) → AreFirst zoom m c → c.read ≡ length m → c.tiles.items ≡ boxes_at zoom m
all_read zoom m c first all = first.tiles ∙ ap (boxes_at zoom) (take_all c.read m (omega (arith, all)))

-- the numbers of the first boxes that show, and of one more
pub shown_more : (bounds : WorldBox) (zoom : ℕ) (es : List IndexEntry) (k : ℕ) (d : IndexEntry) (out next : List ℕ) → k < length es
    → out ≡ ids_shown bounds zoom (take k es) → next ≡ out ++ ids_shown bounds zoom (get_or es k d ∷ []) → next ≡ ids_shown bounds zoom (take (k + 1) es)
shown_more bounds zoom es k d out next lt before after =
    let shows_in : IndexEntry → Bool = λ e. shows bounds zoom e.span in
    let one = get_or es k d ∷ [] in
    rw (take_more es k d lt)
    (after ∙ ap (λ r. r ++ ids_shown bounds zoom one) before
    ∙ sym (ap (map (λ (e : IndexEntry). e.id)) (filter-append shows_in (take k es) one)
    ∙ map-append (λ (e : IndexEntry). e.id) (filter shows_in (take k es)) (filter shows_in one)))

-- ---- what a tile shows by them

module _ (z : ℕ) where
  abbrev numbers : List Numbered → List ℕ
  numbers bs = map (λ b. b.number) bs

  abbrev shown : ℕ × FeatureData → Bool
  shown e = has_zoom e.1 z

  -- the boxes of some features
  abbrev boxes : FeatureMap → List Numbered
  boxes m = map (box_of z) m

  numbers_above : (n : ℕ) (m : FeatureMap) → AreAbove n m → AllByRecursion (λ k. nat_cmp n k ≡ Less) (numbers (boxes (filter shown m)))
  numbers_above n [] above = tt
  numbers_above n (e ∷ m) above = by (shown e) (numbers_above n m above.1)
    where
      by : (b : Bool) → AllByRecursion (λ k. nat_cmp n k ≡ Less) (numbers (boxes (filter shown m)))
          → AllByRecursion (λ k. nat_cmp n k ≡ Less) (numbers (boxes (cond b (e ∷ filter shown m) (filter shown m))))
      by true rest = (less n e.0 above.0, rest)
      by false rest = rest

  numbers_rise : (m : FeatureMap) → Ascends m → IsStrictlySortedBy nat_cmp (numbers (boxes (filter shown m)))
  unfolding IsStrictlySortedBy
  numbers_rise [] up = tt
  numbers_rise (e ∷ m) up = by (shown e) (numbers_rise m (ascends_tail e m up))
    where
      by : (b : Bool) → IsStrictlySortedBy nat_cmp (numbers (boxes (filter shown m)))
          → IsStrictlySortedBy nat_cmp (numbers (boxes (cond b (e ∷ filter shown m) (filter shown m))))
      by true rest = (numbers_above e.0 m (ascends_head e m up), rest)
      by false rest = rest

  box_stands : (m : FeatureMap) (e : ℕ × FeatureData) → Contains m e → shown e ≡ true → Contains (boxes (filter shown m)) (box_of z e)
  box_stands [] e h is = absurd (omega (arith, h.1))
  box_stands (d ∷ m) e h is = by (shown d) refl (λ c. box_stands m e c is) h.0 h.1 h.2
    where
      by : (b : Bool) → shown d ≡ b → (Contains m e → Contains (boxes (filter shown m)) (box_of z e)) → (i : ℕ) → i < length (d ∷ m)
          → get_or (d ∷ m) i e ≡ e → Contains (boxes (cond b (d ∷ filter shown m) (filter shown m))) (box_of z e)
      by true here more zero lt same =
          subst (Contains (box_of z d ∷ boxes (filter shown m))) (ap (box_of z) same) (contains_here (box_of z d) (boxes (filter shown m)))
      by true here more (suc i) lt same = contains_on (box_of z d) (boxes (filter shown m)) (box_of z e) (more (i, omega arith, same))
      by false away more zero lt same = absurd (false≢true (sym away ∙ ap shown same ∙ is))
      by false away more (suc i) lt same = more (i, omega arith, same)

-- a number is in a list, or it isn't
stands_or_not : (n : ℕ) (ns : List ℕ) → Contains ns n ⊎ (Contains ns n → ⊥)
stands_or_not n [] = inr (λ c. omega (arith, c.1))
stands_or_not n (k ∷ ns) = elim (cases_eq k n) [
  | inl same ↦ inl (0, omega arith, same)
  | inr other ↦ elim (stands_or_not n ns) [
    | inl behind ↦ inl (Contains-append_right (k ∷ []) ns n behind)
    | inr nowhere ↦ inr (λ c. neither c.0 c.1 c.2 other nowhere)
  ]
]
  where
    neither : (i : ℕ) → i < length (k ∷ ns) → get_or (k ∷ ns) i n ≡ n → k ≢ n → (Contains ns n → ⊥) → ⊥
    neither zero lt is other nowhere = other is
    neither (suc i) lt is other nowhere = nowhere (i, omega arith, is)

module _ (m : FeatureMap) (z x y : ℕ) (across : x < 2 ^ z) (down : y < 2 ^ z) where
  abbrev numbers_here : List ℕ
  numbers_here = numbers_at (boxes_at z m) x y

  -- a feature whose number isn't there shows nothing
  nothing_there : (e : ℕ × FeatureData) → Contains m e → (Contains numbers_here e.0 → ⊥) → feature_cut e.1 z x y ≡ None
  unfolding boxes_at
  nothing_there e stands nowhere = elim (cases_Bool (has_zoom e.1 z)) [
    | inl shown ↦ outside e.1 z x y (covered e.1.geometry z) refl across down (λ inside.
        nowhere (number_stands (map (box_of z) (filter (λ d. has_zoom d.1 z) m)) (box_of z e) x y (box_stands z m e stands shown) inside))
    | inr hidden ↦ no_zoom e.1 z x y hidden
  ]

  not_shown : (o : Option FeatureView) → IsSome o → o ≡ None → ⊥
  not_shown o some none = false≢true (ap is_some (sym none) ∙ some)

  ascend : IsMap m → IsStrictlySortedBy nat_cmp numbers_here
  unfolding boxes_at
  ascend is_map = numbers_ascend (map (box_of z) (filter (λ e. has_zoom e.1 z) m)) x y (numbers_rise z m is_map.ascending)

  -- the numbers of the boxes that have a tile are those of all features of which it shows something, and maybe of others
  pub boxes_show : IsMap m → ShowsAll m z x y numbers_here
  boxes_show is_map = record {
    ascending = ascend is_map;
    every =
        All-weaker (Contains m) (λ e. IsSome (feature_cut e.1 z x y) → Contains numbers_here e.0)
        (λ e stands shown. elim (stands_or_not e.0 numbers_here) [
          | inl among ↦ among
          | inr nowhere ↦ absurd (not_shown (feature_cut e.1 z x y) shown (nothing_there e stands nowhere))
        ]) m (All-contains_itself m);
  }
