-- Kept tiles stay those of the map.
use Rattle.std.proofs.Common.{◌≡◌, ℕ, ◌≤◌, ◌⊎◌, ◌&&◌, inl, inr, Bool, true, false, cond, min, List, [], ◌∷◌, All}
use Rattle.std.proofs.Common.{Option, Some, None, refl, sym, ap, subst, ◌∙◌, arith, map}
use Rattle.std.specs.Prelude.{nat_le, slice_index}
use Rattle.std.specs.Map.{lookup}
use Rattle.std.proofs.lemmas.Bool.{leb-true, and_parts}
use Rattle.std.proofs.lemmas.List.Elements.{All-nil, All-cons, All-head, All-tail, All-contains, All-map, All-weaker}
use Rattle.feature_store.specs.Content.{IsTileContent}
use Rattle.feature_store.specs.Layers.{layers}
use Rattle.feature_store.specs.Store.{FeatureMap}
use Rattle.tile_cache.specs.Cells.{place_in, cell_at}
use Rattle.tile_cache.specs.Kept.{TileView, CacheView, is_place, kept_at, counts, fresh, KeepsSame, KeepsFewer}
use Rattle.tile_cache.specs.Touched.{Mark, Reaches, Touches, Remembers, IsNewest, IsNewestOf, IsZeroOrMarked, shown_box}
use Rattle.tile_cache.specs.declared.cached_tiles.Origin.{Origin}
use Rattle.tile_cache.specs.declared.cached_tiles.Origin.TheVariants.{Cut, Read}
use Rattle.tile_cache.specs.declared.cached_tiles.TileKey.{TileKey}
use Rattle.tile_cache.specs.declared.touch_grid.TheConstants.{WIDE_LEVELS}
use Rattle.tile_cache.proofs.Marks.{marked_more, newest_of, reached_at_most}
use Rattle.tile_cache.proofs.Numbers.{newest_once}
use Rattle.tile_cache.proofs.Places.{place_is}
use Rattle.cached_map.specs.Cached.{IsUntouched, IsKept, AreKept, AreReadRight, KeepsOrNot, WasMap}

none_is_none : {T : Type 0} {t : T} → ◌≡◌ {A = Option T} None (Some t) → ⊥
none_is_none is = cc

of_some : {T : Type 0} {s t : T} → Some s ≡ Some t → s ≡ t
of_some same = cc

cut_is_not_read : Cut ≡ Read → ⊥
cut_is_not_read is = cc

-- ---- marks that are joined

-- marks with numbers up to the last, before others
abbrev with_marks : (last : ℕ) → List Mark → List Mark → List Mark
with_marks last [] marks = marks
with_marks last (m ∷ ms) marks = (m.0, min m.1 last) ∷ with_marks last ms marks

at_most : (marks : List Mark) (n last : ℕ) → All (λ k. k.1 ≤ last) marks → IsZeroOrMarked marks n → n ≤ last
at_most marks n last all (inl none) = omega (arith, none)
at_most marks n last all (inr has) =
    All-contains (λ k. k ≤ last) (map (λ (k : Mark). k.1) marks) n (All-map (λ k. k ≤ last) (λ (k : Mark). k.1) marks all) has

module _ (last : ℕ) where
  numbers_joined : (ms marks : List Mark) → All (λ (m : Mark). m.1 ≤ last) marks → All (λ (m : Mark). m.1 ≤ last) (with_marks last ms marks)
  numbers_joined [] marks all = all
  numbers_joined (m ∷ ms) marks all =
      All-cons (λ (k : Mark). k.1 ≤ last) (m.0, min m.1 last) (with_marks last ms marks) (omega arith) (numbers_joined ms marks all)

  only_joined : (ms marks : List Mark) (n : ℕ) → IsZeroOrMarked marks n → IsZeroOrMarked (with_marks last ms marks) n
  only_joined [] marks n is = is
  only_joined (m ∷ ms) marks n is = marked_more (m.0, min m.1 last) (with_marks last ms marks) n (only_joined ms marks n is)

  reached_joined : (cells : List ℕ) (level column row : ℕ) (ms marks : List Mark)
      → All (λ (m : Mark). Touches m.0 level column row → m.1 ≤ cell_at cells level column row) ms
      → All (λ (m : Mark). Touches m.0 level column row → m.1 ≤ cell_at cells level column row) marks
      → All (λ (m : Mark). Touches m.0 level column row → m.1 ≤ cell_at cells level column row) (with_marks last ms marks)
  reached_joined cells level column row [] marks of_ms all = all
  reached_joined cells level column row (m ∷ ms) marks of_ms all =
      let P : Mark → Type 0 = λ k. Touches k.0 level column row → k.1 ≤ cell_at cells level column row in
      All-cons P (m.0, min m.1 last) (with_marks last ms marks) (λ touches. omega (arith, All-head P m ms of_ms touches))
      (reached_joined cells level column row ms marks (All-tail P m ms of_ms) all)

  remembers_joined : (cells : List ℕ) (ms marks : List Mark) → Remembers cells ms → Remembers cells marks → Remembers cells (with_marks last ms marks)
  remembers_joined cells ms marks of_ms of_marks = record {
    reached = λ level column row is. reached_joined cells level column row ms marks (of_ms.reached level column row is) (of_marks.reached level column row is);
    only = λ at. only_joined ms marks (slice_index cells at) (of_marks.only at);
  }

  module _ (z x y n : ℕ) where
    -- what no joined mark reaches, the others don't reach
    untouched_others : (ms marks : List Mark) → IsUntouched (with_marks last ms marks) z x y n → IsUntouched marks z x y n
    untouched_others [] marks all = all
    untouched_others (m ∷ ms) marks all =
        untouched_others ms marks (All-tail (λ (k : Mark). Reaches k.0 z x y → k.1 ≤ n) (m.0, min m.1 last) (with_marks last ms marks) all)

    -- nor do the first ones, where the number of each that reaches the tile is at most the last
    untouched_first : (ms marks : List Mark) → All (λ (m : Mark). Reaches m.0 z x y → m.1 ≤ last) ms
        → IsUntouched (with_marks last ms marks) z x y n → IsUntouched ms z x y n
    untouched_first [] marks low all = All-nil (λ (k : Mark). Reaches k.0 z x y → k.1 ≤ n)
    untouched_first (m ∷ ms) marks low all =
        let P : Mark → Type 0 = λ k. Reaches k.0 z x y → k.1 ≤ n in
        let L : Mark → Type 0 = λ k. Reaches k.0 z x y → k.1 ≤ last in
        All-cons P m ms (λ reaches. omega (arith, All-head P (m.0, min m.1 last) (with_marks last ms marks) all reaches, All-head L m ms low reaches))
        (untouched_first ms marks (All-tail L m ms low) (All-tail P (m.0, min m.1 last) (with_marks last ms marks) all))

-- ---- what is kept

module _ (origin : Origin) (m : FeatureMap) (cells : List ℕ) (last : ℕ) where
  pub nothing_kept : (kept : CacheView) → Remembers cells [] → kept.kept ≡ [] → AreKept origin m cells last kept
  nothing_kept kept none nothing = record {
    marks = [];
    remembers = none;
    numbers = All-nil (λ (k : Mark). k.1 ≤ last);
    tiles = λ z x y t is from.
        let found : kept_at kept z x y ≡ None = ap (λ es. lookup (is_place (record { z = z; x = x; y = y })) es) nothing in
        absurd (none_is_none (sym found ∙ is));
  }

  pub same_kept : (old new : CacheView) → KeepsSame old new → AreKept origin m cells last old → AreKept origin m cells last new
  same_kept old new same before = record {
    marks = before.marks;
    remembers = before.remembers;
    numbers = before.numbers;
    tiles = λ z x y t is from. before.tiles z x y t (sym (same.tiles z x y) ∙ is) from;
  }

  -- a tile more, which is that of the map if it is of this origin
  one_kept : (old new : CacheView) (z x y : ℕ) (t : TileView) (before : AreKept origin m cells last old)
      → (t.origin ≡ origin → IsKept m before.marks last z x y t)
      → kept_at new z x y ≡ Some t → KeepsFewer z x y old new → AreKept origin m cells last new
  one_kept old new z x y t before tile here others = record {
    marks = before.marks;
    remembers = before.remembers;
    numbers = before.numbers;
    tiles = λ z' x' y' s is from. go z' x' y' s is from (is_place (record { z = z; x = x; y = y }) (record { z = z'; x = x'; y = y' })) refl;
  }
    where
      there : (s : TileView) → kept_at new z x y ≡ Some s → s.origin ≡ origin → IsKept m before.marks last z x y s
      there s is =
          let same : t ≡ s = of_some (sym here ∙ is) in
          subst (λ (k : TileView). k.origin ≡ origin → IsKept m before.marks last z x y k) same tile

      elsewhere : (z' x' y' : ℕ) (s : TileView) → kept_at new z' x' y' ≡ Some s → s.origin ≡ origin
          → (kept_at new z' x' y' ≡ kept_at old z' x' y') ⊎ (kept_at new z' x' y' ≡ None) → IsKept m before.marks last z' x' y' s
      elsewhere z' x' y' s is from (inl same) = before.tiles z' x' y' s (sym same ∙ is) from
      elsewhere z' x' y' s is from (inr none) = absurd (none_is_none (sym none ∙ is))

      go : (z' x' y' : ℕ) (s : TileView) → kept_at new z' x' y' ≡ Some s → s.origin ≡ origin → (same : Bool)
          → is_place (record { z = z; x = x; y = y }) (record { z = z'; x = x'; y = y' }) ≡ same → IsKept m before.marks last z' x' y' s
      go z' x' y' s is from false other = elsewhere z' x' y' s is from (others z' x' y' other)
      go z' x' y' s is from true same =
          let place : (record { z = z; x = x; y = y }) ≡ (record { z = z'; x = x'; y = y' }) = place_is _ _ same in
          subst (λ (p : TileKey). kept_at new p.z p.x p.y ≡ Some s → IsKept m before.marks last p.z p.x p.y s) place (λ h. there s h from) is

  -- a tile more, or the same
  pub one_or_same : (old new : CacheView) (z x y : ℕ) (t : TileView) (before : AreKept origin m cells last old)
      → (t.origin ≡ origin → IsKept m before.marks last z x y t) → KeepsOrNot z x y t old new → AreKept origin m cells last new
  one_or_same old new z x y t before tile (inl kept) = one_kept old new z x y t before tile kept.0 kept.1
  one_or_same old new z x y t before tile (inr same) = subst (AreKept origin m cells last) (sym same) before

  -- marks more that the cells remember
  abbrev joined : (kept : CacheView) (marks : List Mark) → Remembers cells marks → AreKept origin m cells last kept → AreKept origin m cells last kept
  joined kept marks remembers before = record {
    marks = with_marks last marks before.marks;
    remembers = remembers_joined last cells marks before.marks remembers before.remembers;
    numbers = numbers_joined last marks before.marks before.numbers;
    tiles = λ z x y t is from. let was = before.tiles z x y t is from in record {
      number = was.number;
      tile = λ all. was.tile (untouched_others last z x y t.number marks before.marks all);
    };
  }

-- what was cut of the map as it is
pub cut_kept : (m : FeatureMap) (cells : List ℕ) (last : ℕ) (old new : CacheView) (z x y : ℕ) (bytes : List ℕ)
    → IsTileContent (layers m z x y) (Some bytes) → KeepsOrNot z x y (record { origin = Cut; number = last; bytes = bytes }) old new
    → AreKept Cut m cells last old → AreKept Cut m cells last new
cut_kept m cells last old new z x y bytes content kept before =
    one_or_same Cut m cells last old new z x y (record { origin = Cut; number = last; bytes = bytes }) before
    (λ from. record { number = omega arith; tile = λ all. content }) kept

pub cut_beside_reads : (m : FeatureMap) (cells : List ℕ) (last number : ℕ) (old new : CacheView) (z x y : ℕ) (bytes : List ℕ)
    → KeepsOrNot z x y (record { origin = Cut; number = number; bytes = bytes }) old new → AreReadRight m cells last old → AreReadRight m cells last new
cut_beside_reads m cells last number old new z x y bytes kept before =
    one_or_same Read m cells last old new z x y (record { origin = Cut; number = number; bytes = bytes }) before
    (λ from. absurd (cut_is_not_read from)) kept

pub read_beside_cut : (m : FeatureMap) (cells : List ℕ) (last number : ℕ) (old new : CacheView) (z x y : ℕ) (bytes : List ℕ)
    → KeepsOrNot z x y (record { origin = Read; number = number; bytes = bytes }) old new → AreKept Cut m cells last old → AreKept Cut m cells last new
read_beside_cut m cells last number old new z x y bytes kept before =
    one_or_same Cut m cells last old new z x y (record { origin = Read; number = number; bytes = bytes }) before
    (λ from. absurd (cut_is_not_read (sym from))) kept

-- what was read of an earlier map that has the layers of this one where no edit after its number reaches
pub read_kept : (m : FeatureMap) (cells : List ℕ) (last number : ℕ) (old new : CacheView) (z x y : ℕ) (bytes : List ℕ) (was : FeatureMap)
    → KeepsOrNot z x y (record { origin = Read; number = number; bytes = bytes }) old new
    → WasMap m cells last number was → IsTileContent (layers was z x y) (Some bytes) → AreReadRight m cells last old → AreReadRight m cells last new
read_kept m cells last number old new z x y bytes was kept earlier content before =
    one_or_same Read m cells last old new z x y (record { origin = Read; number = number; bytes = bytes })
    (joined Read m cells last old earlier.marks earlier.remembers before) (λ from. record {
      number = earlier.number;
      tile = λ all. subst (λ ls. IsTileContent ls (Some bytes))
          (sym (earlier.tiles z x y (untouched_first last z x y number earlier.marks before.marks low all))) content;
    }) kept
  where
    low : All (λ (k : Mark). Reaches k.0 z x y → k.1 ≤ last) earlier.marks
    low = reached_at_most WIDE_LEVELS cells earlier.marks 0 z x y last (omega arith)
        (λ column row has. at_most before.marks (cell_at cells 0 column row) last before.numbers (before.remembers.only (place_in 0 column row)))
        earlier.remembers

-- ---- the newest edit that reaches a tile

-- no edit after it reaches the tile
untouched_behind : (marks : List Mark) (z x y newest n : ℕ) → IsNewest marks z x y newest → newest ≤ n → IsUntouched marks z x y n
untouched_behind marks z x y newest n is le =
    All-weaker (λ (k : Mark). Reaches k.0 z x y → k.1 ≤ newest) (λ (k : Mark). Reaches k.0 z x y → k.1 ≤ n)
    (λ k h reaches. omega (arith, h reaches, le)) marks is.reached

-- what is fresh is the same where the same is kept
pub fresh_same : (cells : List ℕ) (old new : CacheView) (z x y m n : ℕ) (reads : Bool) (found : Option (List ℕ)) → KeepsSame old new
    → IsNewestOf cells z x y m → IsNewestOf cells z x y n → found ≡ fresh m reads (kept_at new z x y) → found ≡ fresh n reads (kept_at old z x y)
fresh_same cells old new z x y m n reads found same of_m of_n is =
    is ∙ ap (λ k. fresh k reads (kept_at new z x y)) (newest_once WIDE_LEVELS cells (shown_box z x y) m n of_m of_n) ∙ ap (fresh n reads) (same.tiles z x y)

module _ (z x y newest : ℕ) where
  -- an earlier map whose number isn't below it has the same layers
  pub same_since : (m : FeatureMap) (cells : List ℕ) (last n : ℕ) (was : FeatureMap)
      → ((marks : List Mark) → Remembers cells marks → IsNewest marks z x y newest) → WasMap m cells last n was → newest ≤ n
      → layers m z x y ≡ layers was z x y
  same_since m cells last n was newest_is h le = h.tiles z x y (untouched_behind h.marks z x y newest n (newest_is h.marks h.remembers) le)

  pub newest_most : (origin : Origin) (m : FeatureMap) (cells : List ℕ) (last : ℕ) (kept : CacheView) → AreKept origin m cells last kept
      → ((marks : List Mark) → Remembers cells marks → IsNewest marks z x y newest) → newest ≤ last
  newest_most origin m cells last kept are newest_is = at_most are.marks newest last are.numbers (newest_is are.marks are.remembers).only

-- the map of this moment is known
pub known_now : (origin : Origin) (m : FeatureMap) (cells : List ℕ) (last : ℕ) (kept : CacheView) → AreKept origin m cells last kept
    → WasMap m cells last last m
known_now origin m cells last kept are =
    record { marks = are.marks; remembers = are.remembers; number = omega arith; tiles = λ z x y untouched. refl }

-- where the number of the newest edit that can have touched a tile isn't above that of a map that is known, the tile has its layers
pub known_layers : (m : FeatureMap) (cells : List ℕ) (last n newest : ℕ) (was : FeatureMap) (z x y : ℕ) → WasMap m cells last n was
    → IsNewestOf cells z x y newest → newest ≤ n → layers m z x y ≡ layers was z x y
known_layers m cells last n newest was z x y known is le =
    same_since z x y newest m cells last n was (λ marks remembers. newest_of WIDE_LEVELS cells marks z x y newest is remembers) known le

-- ---- what is found

-- a tile that is new enough is that of the map
right_since : (origin : Origin) (m : FeatureMap) (cells : List ℕ) (last : ℕ) (kept : CacheView) (z x y newest : ℕ) (t : TileView)
    → AreKept origin m cells last kept → t.origin ≡ origin
    → ((marks : List Mark) → Remembers cells marks → IsNewest marks z x y newest) → kept_at kept z x y ≡ Some t → newest ≤ t.number
    → IsTileContent (layers m z x y) (Some t.bytes)
right_since origin m cells last kept z x y newest t are from newest_is here le =
    (are.tiles z x y t here from).tile (untouched_behind are.marks z x y newest t.number (newest_is are.marks are.remembers) le)

-- a tile that counts is
right_origin : (m : FeatureMap) (cells : List ℕ) (last : ℕ) (kept : CacheView) (z x y newest : ℕ) (reads : Bool) (t : TileView)
    → (from : Origin) → t.origin ≡ from → counts reads from ≡ true
    → AreKept Cut m cells last kept → (reads ≡ true → AreReadRight m cells last kept)
    → ((marks : List Mark) → Remembers cells marks → IsNewest marks z x y newest) → kept_at kept z x y ≡ Some t → newest ≤ t.number
    → IsTileContent (layers m z x y) (Some t.bytes)
right_origin m cells last kept z x y newest reads t Cut from counted cut read newest_is here le =
    right_since Cut m cells last kept z x y newest t cut from newest_is here le
right_origin m cells last kept z x y newest reads t Read from counted cut read newest_is here le =
    right_since Read m cells last kept z x y newest t (read counted) from newest_is here le

pub found_is : (m : FeatureMap) (cells : List ℕ) (last : ℕ) (kept : CacheView) (z x y newest : ℕ) (reads : Bool) (bytes : List ℕ)
    → AreKept Cut m cells last kept → (reads ≡ true → AreReadRight m cells last kept)
    → ((marks : List Mark) → Remembers cells marks → IsNewest marks z x y newest) → Some bytes ≡ fresh newest reads (kept_at kept z x y)
    → IsTileContent (layers m z x y) (Some bytes)
found_is m cells last kept z x y newest reads bytes cut read newest_is is = go (kept_at kept z x y) refl is
  where
    go : (o : Option TileView) → kept_at kept z x y ≡ o → Some bytes ≡ fresh newest reads o → IsTileContent (layers m z x y) (Some bytes)
    go None here is = absurd (none_is_none (sym is))
    go (Some t) here is = by (nat_le newest t.number && counts reads t.origin) refl is
      where
        by : (b : Bool) → (nat_le newest t.number && counts reads t.origin) ≡ b → Some bytes ≡ cond b (Some t.bytes) None
            → IsTileContent (layers m z x y) (Some bytes)
        by false old is = absurd (none_is_none (sym is))
        by true new is =
            let parts = and_parts (nat_le newest t.number) (counts reads t.origin) new in
            subst (λ b. IsTileContent (layers m z x y) (Some b)) (of_some (sym is))
            (right_origin m cells last kept z x y newest reads t t.origin refl parts.1 cut read newest_is here (leb-true newest t.number parts.0))
