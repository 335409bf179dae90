-- What a grid remembers of marks.
use Rattle.std.proofs.Common.{◌≡◌, ℕ, zero, suc, replicate, slice_index, ◌+◌, ◌-◌, ◌*◌, ◌/◌, ◌^◌, ◌<◌, ◌≤◌, ◌⊎◌, List, [], ◌∷◌}
use Rattle.std.proofs.Common.{map, max, refl, sym, subst, inl, inr, arith, ◌∙◌}
use Rattle.std.specs.Prelude.{All, Bool, true, false, nat_le, if◌then◌else◌}
use Rattle.feature_model.specs.declared.limits.TheConstants.{MAX_ZOOM}
use Rattle.std.proofs.Math.ListN.{get_or}
use Rattle.std.proofs.Math.Nat.{one-le-pow, mul-le-mul_right, div-mul-le_self}
use Rattle.std.proofs.lemmas.Nat.{le-div}
use Rattle.std.proofs.lemmas.List.Elements.{All-nil, All-cons, All-head, All-tail, All-weaker, Contains-append_right}
use Rattle.feature_model.specs.declared.feature.WorldBox.{WorldBox}
use Rattle.tile_cutter.specs.declared.coordinates.TheConstants.{EXTENT, MARGIN, WORLD_ZOOM}
use Rattle.tile_cutter.specs.WorldBox.{tile_box, first_shown, last_shown}
use Rattle.tile_cache.specs.declared.touch_grid.Cells.{Cells}
use Rattle.tile_cache.specs.declared.touch_grid.TheConstants.{WIDE_LEVELS, CELL_BITS}
use Rattle.tile_cache.specs.Cells.{place_in, cell_at, cell_of, cells_of, HasCell, RisesTo, StaysBut, IsOfBox, HasWhole, IsZeroOrCell, IsGreatestIn}
use Rattle.tile_cache.specs.Cells.{IsLookedAt, IsNewestIn}
use Rattle.tile_cache.specs.Touched.{Mark, IsOrdered, Reaches, Touches, TouchesPlace, IsZeroOrMarked, RemembersIn, StaysElsewhere, IsNewest, IsNewestOf}
use Rattle.tile_cache.specs.Touched.{shown_box, world, IsClear}

either : {P Q R : Type 0} → (P → R) → (Q → R) → P ⊎ Q → R
either f g (inl p) = f p
either f g (inr q) = g q

-- ---- a mark more

pub remembers_none : (levels : ℕ) (cells : List ℕ) → ((at : ℕ) → get_or cells at 0 ≡ 0) → RemembersIn levels cells []
remembers_none levels cells none = record {
  reached = λ level column row is. All-nil (λ (m : Mark). Touches m.0 level column row → m.1 ≤ cell_at cells level column row);
  only = λ at. inl (none at);
}

pub zeros : (n at : ℕ) → slice_index (replicate n 0) at ≡ 0
zeros zero at = refl
zeros (suc n) zero = refl
zeros (suc n) (suc at) = zeros n at

pub marked_more : (m : Mark) (marks : List Mark) (n : ℕ) → IsZeroOrMarked marks n → IsZeroOrMarked (m ∷ marks) n
marked_more m marks n (inl is) = inl is
marked_more m marks n (inr is) = inr (Contains-append_right (m.1 ∷ []) (map (λ (k : Mark). k.1) marks) n is)

marked_here : (m : Mark) (marks : List Mark) → IsZeroOrMarked (m ∷ marks) m.1
marked_here m marks = inr (0, omega arith, refl)

pub remembers_more : (levels : ℕ) (old new : List ℕ) (m : Mark) (marks : List Mark) → RisesTo m.1 old new
    → ((level column row : ℕ) → level < levels → Touches m.0 level column row → m.1 ≤ cell_at new level column row)
    → RemembersIn levels old marks → RemembersIn levels new (m ∷ marks)
remembers_more levels old new m marks r here before = record {
  reached = λ level column row is.
      let on : List ℕ → Mark → Type 0 = λ cells k. Touches k.0 level column row → k.1 ≤ cell_at cells level column row in
      All-cons (on new) m marks (here level column row is)
      (All-weaker (on old) (on new) (λ k below touches. omega (arith, below touches, r.rises (place_in level column row)))
      marks (before.reached level column row is));
  only = λ at. either (λ (same : get_or new at 0 ≡ get_or old at 0). subst (IsZeroOrMarked (m ∷ marks)) (sym same)
      (marked_more m marks (get_or old at 0) (before.only at)))
      (λ (is : get_or new at 0 ≡ m.1). subst (IsZeroOrMarked (m ∷ marks)) (sym is) (marked_here m marks)) (r.only at);
}

-- ---- what no mark touches

-- a box whose sides are the wrong way round touches nothing
pub stays_empty : (cells : List ℕ) (m : Mark) (marks : List Mark) (first : List ℕ) → StaysElsewhere marks first cells
    → StaysElsewhere (m ∷ marks) first cells
stays_empty cells m marks first before at all = before at (All-tail (λ (k : Mark). ¬ TouchesPlace k.0 at) m marks all)

pub stays_more : (old new : List ℕ) (m : Mark) (marks : List Mark) (first : List ℕ) → IsOrdered m.0 → StaysBut (IsOfBox m.0) old new
    → StaysElsewhere marks first old → StaysElsewhere (m ∷ marks) first new
stays_more old new m marks first ordered stays before at all =
    stays at (λ is. All-head (λ (k : Mark). ¬ TouchesPlace k.0 at) m marks all (ordered, is))
    ∙ before at (All-tail (λ (k : Mark). ¬ TouchesPlace k.0 at) m marks all)

-- ---- a box that reaches a tile has a cell in common with it

cell_rises : (level m n : ℕ) → m ≤ n → cell_of level m ≤ cell_of level n
cell_rises level m n le =
    let unit = 2 ^ slice_index CELL_BITS level in
    le-div (m / unit) n unit (one-le-pow (slice_index CELL_BITS level) 2 (omega arith)) (omega (arith, le, div-mul-le_self m unit))

shown_rises : (zoom at : ℕ) → first_shown zoom at ≤ last_shown zoom at
shown_rises zoom at =
    let unit = one-le-pow (WORLD_ZOOM - zoom) 2 (omega arith) in
    let near : (EXTENT * at - MARGIN) + 1 ≤ EXTENT * at + (EXTENT + MARGIN + 1) = omega arith in
    omega (arith, unit, mul-le-mul_right (2 ^ (WORLD_ZOOM - zoom)) near)

-- the world has the whole of each tile's box
whole_world : (zoom column row : ℕ) → HasWhole world (tile_box zoom column row)
unfolding tile_box
whole_world zoom column row = record { left = omega arith; right = omega arith; top = omega arith; bottom = omega arith }

-- so has the box that it shows
shown_whole : (zoom column row : ℕ) → HasWhole (shown_box zoom column row) (tile_box zoom column row)
shown_whole zoom column row = go (nat_le zoom MAX_ZOOM)
  where
    go : (b : Bool) → HasWhole (if b then tile_box zoom column row else world) (tile_box zoom column row)
    go true = record { left = omega arith; right = omega arith; top = omega arith; bottom = omega arith }
    go false = whole_world zoom column row

-- of two overlapping ranges one cell is in both
module _ (level : ℕ) where
  common : (a b c d : ℕ) → a ≤ b → c ≤ d → a ≤ d → c ≤ b
      → (n : ℕ) × (cell_of level a ≤ n) × (n ≤ cell_of level b) × (cell_of level c ≤ n) × (n ≤ cell_of level d)
  common a b c d ab cd ad cb =
      let ab' = cell_rises level a b ab in
      let cd' = cell_rises level c d cd in
      let ad' = cell_rises level a d ad in
      let cb' = cell_rises level c b cb in
      (max (cell_of level a) (cell_of level c), omega arith, omega (arith, ab', cb'), omega arith, omega (arith, cd', ad'))

  common_cell : (b : WorldBox) (zoom column row : ℕ) (whole : WorldBox) → HasWhole whole (tile_box zoom column row) → Reaches b zoom column row
      → (across : ℕ) × (down : ℕ) × Touches b level across down × HasCell (cells_of level whole) across down
  unfolding tile_box
  common_cell b zoom column row whole has reaches =
      let x = common b.x0 b.x1 (first_shown zoom column) (last_shown zoom column) reaches.ordered.across
      (shown_rises zoom column) reaches.meets.left reaches.meets.right in
      let y = common b.y0 b.y1 (first_shown zoom row) (last_shown zoom row) reaches.ordered.down
      (shown_rises zoom row) reaches.meets.top reaches.meets.bottom in (
        x.0,
        y.0,
        record { ordered = reaches.ordered; cell = record { left = x.1; right = x.2; top = y.1; bottom = y.2 } },
        record {
          left = omega (arith, x.3, cell_rises level whole.x0 (first_shown zoom column) has.left);
          right = omega (arith, x.4, cell_rises level (last_shown zoom column) whole.x1 has.right);
          top = omega (arith, y.3, cell_rises level whole.y0 (first_shown zoom row) has.top);
          bottom = omega (arith, y.4, cell_rises level (last_shown zoom row) whole.y1 has.bottom);
        },
      )

-- ---- the greatest number of the cells of a tile

-- the number of each mark that reaches the tile is at most that of a cell of a level that the tile's box touches
pub reached_at_most : (levels : ℕ) (cells : List ℕ) (marks : List Mark) (level zoom column row n : ℕ) → level < levels
    → ((across down : ℕ) → HasCell (cells_of level (shown_box zoom column row)) across down → cell_at cells level across down ≤ n)
    → RemembersIn levels cells marks → All (λ (m : Mark). Reaches m.0 zoom column row → m.1 ≤ n) marks
reached_at_most levels cells marks level zoom column row n is most remembers = each marks (λ across down. remembers.reached level across down is)
  where
    whole : WorldBox
    whole = shown_box zoom column row

    on : (across down : ℕ) → Mark → Type 0
    on across down m = Touches m.0 level across down → m.1 ≤ cell_at cells level across down

    each : (ms : List Mark) → ((across down : ℕ) → All (on across down) ms) → All (λ (m : Mark). Reaches m.0 zoom column row → m.1 ≤ n) ms
    each [] all = All-nil (λ (m : Mark). Reaches m.0 zoom column row → m.1 ≤ n)
    each (m ∷ ms) all = All-cons (λ (k : Mark). Reaches k.0 zoom column row → k.1 ≤ n) m ms
        (λ reaches. let cell = common_cell level m.0 zoom column row whole (shown_whole zoom column row) reaches in
        let below : m.1 ≤ cell_at cells level cell.0 cell.1 = All-head (on cell.0 cell.1) m ms (all cell.0 cell.1) cell.2 in
        omega (arith, below, most cell.0 cell.1 cell.3))
        (each ms (λ across down. All-tail (on across down) m ms (all across down)))

pub newest_of : (levels : ℕ) (cells : List ℕ) (marks : List Mark) (zoom column row n : ℕ) → IsNewestIn levels cells (shown_box zoom column row) n
    → RemembersIn levels cells marks → IsNewest marks zoom column row n
newest_of levels cells marks zoom column row n newest remembers = record {
  reached = reached_at_most levels cells marks level zoom column row n newest.found.1 newest.found.3.reached remembers;
  only = only newest.found.3.found;
}
  where
    level : ℕ
    level = newest.found.0

    only : IsZeroOrCell cells level (cells_of level (shown_box zoom column row)) n → IsZeroOrMarked marks n
    only (inl is) = inl is
    only (inr one) = subst (IsZeroOrMarked marks) (sym one.3) (remembers.only (place_in level one.0 one.1))

-- ---- a tile that no mark touches has the newest edit that it had

greatest_same : (old new : List ℕ) (level n : ℕ) (range : Cells)
    → ((across down : ℕ) → HasCell range across down → cell_at new level across down ≡ cell_at old level across down)
    → IsGreatestIn old level range n → IsGreatestIn new level range n
greatest_same old new level n range same is = record {
  reached = λ across down has. omega (arith, is.reached across down has, same across down has);
  found = go is.found;
}
  where
    go : IsZeroOrCell old level range n → IsZeroOrCell new level range n
    go (inl none) = inl none
    go (inr one) = inr (one.0, one.1, one.2, one.3 ∙ sym (same one.0 one.1 one.2))

pub newest_stays : (marks : List Mark) (old new : List ℕ) (zoom column row n : ℕ) → StaysElsewhere marks old new → IsClear marks zoom column row
    → IsNewestOf old zoom column row n → IsNewestOf new zoom column row n
newest_stays marks old new zoom column row n stays clear is = record {
  least = λ level m lt looked of_m.
      is.least level m lt looked (greatest_same new old level m (cells_of level b) (λ across down has. sym (same level lt looked across down has)) of_m);
  found = (
    is.found.0,
    is.found.1,
    is.found.2,
    greatest_same old new is.found.0 n (cells_of is.found.0 b) (same is.found.0 is.found.1 is.found.2) is.found.3,
  );
}
  where
    b : WorldBox
    b = shown_box zoom column row

    same : (level : ℕ) → level < WIDE_LEVELS → IsLookedAt level b → (across down : ℕ) → HasCell (cells_of level b) across down
        → cell_at new level across down ≡ cell_at old level across down
    same level lt looked across down has = stays (place_in level across down) (clear level across down lt looked has)
