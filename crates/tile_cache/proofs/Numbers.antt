-- Numbers that rise, and the greatest of some.
use Rattle.std.proofs.Common.{◌≡◌, ℕ, ◌+◌, ◌-◌, ◌*◌, ◌%◌, ◌<◌, ◌≤◌, ◌⊎◌, true, false, List, length, min, max, refl, sym, ap, subst, ◌∙◌, inl, inr, arith}
use Rattle.std.specs.Prelude.{Bool, nat_lt, if◌then◌else◌}
use Rattle.std.proofs.Math.ListN.{get_or}
use Rattle.std.proofs.lemmas.Bool.{cases_lt, ltb-true, ltb-false}
use Rattle.tile_cache.specs.declared.touch_grid.Cells.{Cells}
use Rattle.feature_model.specs.declared.feature.WorldBox.{WorldBox}
use Rattle.tile_cache.specs.declared.touch_grid.TheConstants.{SIDE, WIDE_SIDE, LEVEL_CELLS, LEVELS, WIDE_CELLS}
use Rattle.tile_cache.specs.Cells.{place_in, side_of, level_end, cell_at, cells_of, HasCell, IsNarrow, RisesTo, IsZeroOrOneOf, IsZeroOrCell, IsGreatestIn}
use Rattle.tile_cache.specs.Cells.{IsNewestIn, StaysBut}

either : {P Q R : Type 0} → (P → R) → (Q → R) → P ⊎ Q → R
either f g (inl p) = f p
either f g (inr q) = g q

-- the greater of two numbers is one of them
max_is : (m n : ℕ) → (max m n ≡ m) ⊎ (max m n ≡ n)
max_is m n = either (λ (lt : m < n). inr (omega (arith, lt))) (λ (le : n ≤ m). inl (omega (arith, le))) (cases_lt m n)

module _ (number : ℕ) where
  pub rises_none : (xs : List ℕ) → RisesTo number xs xs
  rises_none xs = record { length = refl; rises = λ at. omega arith; only = λ at. inl refl }

  pub rises_again : (xs ys zs : List ℕ) → RisesTo number xs ys → RisesTo number ys zs → RisesTo number xs zs
  rises_again xs ys zs r s = record {
    length = s.length ∙ r.length;
    rises = λ at. omega (arith, r.rises at, s.rises at);
    only = λ at. either (λ (same : get_or zs at 0 ≡ get_or ys at 0). either (λ (was : get_or ys at 0 ≡ get_or xs at 0). inl (same ∙ was))
        (λ (is : get_or ys at 0 ≡ number). inr (same ∙ is)) (r.only at)) (λ (is : get_or zs at 0 ≡ number). inr is) (s.only at);
  }

-- ---- what stays

pub stays_again : (Raised : ℕ → Type 0) (xs ys zs : List ℕ) → StaysBut Raised xs ys → StaysBut Raised ys zs → StaysBut Raised xs zs
stays_again Raised xs ys zs r s at out = s at out ∙ r at out

-- the same with more places
pub stays_wider : (P Q : ℕ → Type 0) (xs ys : List ℕ) → ((at : ℕ) → P at → Q at) → StaysBut P xs ys → StaysBut Q xs ys
stays_wider P Q xs ys more r at out = r at (λ p. out (more at p))

-- a level has one of two sides
side_is : (level : ℕ) → (side_of level ≡ 32) ⊎ (side_of level ≡ 256)
side_is level = go (nat_lt level LEVELS)
  where
    go : (b : Bool) → ((if b then SIDE else WIDE_SIDE) ≡ 32) ⊎ ((if b then SIDE else WIDE_SIDE) ≡ 256)
    go true = inl refl
    go false = inr refl

-- of cells that share a number one is among the first of them, as many as the level has columns
pub wrapped : (side first last n : ℕ) → (side ≡ 32) ⊎ (side ≡ 256) → first ≤ n → n ≤ last
    → (k : ℕ) × (first ≤ k) × (k < min last (first + (side - 1)) + 1) × (k % side ≡ n % side)
wrapped side first last n (inl is) low high =
    rw is (first + (n - first) % 32, omega arith, omega (arith, low, high), omega (arith, low))
wrapped side first last n (inr is) low high =
    rw is (first + (n - first) % 256, omega arith, omega (arith, low, high), omega (arith, low))

same_column : (cells : List ℕ) (level row j k : ℕ) → j % side_of level ≡ k % side_of level → cell_at cells level j row ≡ cell_at cells level k row
same_column cells level row j k same = ap (λ m. get_or cells (LEVEL_CELLS * level + side_of level * (row % side_of level) + m) 0) same

same_row : (cells : List ℕ) (level column j k : ℕ) → j % side_of level ≡ k % side_of level → cell_at cells level column j ≡ cell_at cells level column k
same_row cells level column j k same = ap (λ m. get_or cells (LEVEL_CELLS * level + side_of level * m + column % side_of level) 0) same

module _ (number : ℕ) (level : ℕ) (range : Cells) where
  -- the rows of cells up to the one raised last
  pub raised_rows : (at : ℕ) (xs ys : List ℕ) → RisesTo number xs ys
      → ((k : ℕ) → range.left ≤ k → k < min range.right (range.left + (side_of level - 1)) + 1 → number ≤ cell_at ys level k at)
      → ((column row : ℕ) → HasCell range column row → row < at → number ≤ cell_at xs level column row)
      → (column row : ℕ) → HasCell range column row → row < at + 1 → number ≤ cell_at ys level column row
  raised_rows at xs ys r here before column row has lt =
      either (λ (less : row < at). omega (arith, before column row has less, r.rises (place_in level column row)))
      (λ (not_less : at ≤ row).
      let same : at ≡ row = omega (arith, lt, not_less) in
      let near = wrapped (side_of level) range.left range.right column (side_is level) has.left has.right in
      omega (arith, subst (λ i. number ≤ cell_at ys level near.0 i) same (here near.0 near.1 near.2), same_column ys level row near.0 column near.3))
      (cases_lt row at)

  -- all rows, once as many are as the level has
  pub raised_all : (at : ℕ) (ys : List ℕ) → min range.bottom (range.top + (side_of level - 1)) + 1 ≤ at
      → ((column row : ℕ) → HasCell range column row → row < at → number ≤ cell_at ys level column row)
      → (column row : ℕ) → HasCell range column row → number ≤ cell_at ys level column row
  raised_all at ys end before column row has =
      let near = wrapped (side_of level) range.top range.bottom row (side_is level) has.top has.bottom in
      let raised = before column near.0
      (record { left = has.left; right = has.right; top = near.1; bottom = omega (arith, near.2) }) (omega (arith, near.2, end)) in
      omega (arith, raised, same_row ys level column near.0 row near.3)

-- the levels up to the one raised last
pub raised_levels : (number : ℕ) (b : WorldBox) (at : ℕ) (xs ys : List ℕ) → RisesTo number xs ys
    → ((column row : ℕ) → HasCell (cells_of at b) column row → number ≤ cell_at ys at column row)
    → ((level column row : ℕ) → level < at → HasCell (cells_of level b) column row → number ≤ cell_at xs level column row)
    → (level column row : ℕ) → level < at + 1 → HasCell (cells_of level b) column row → number ≤ cell_at ys level column row
raised_levels number b at xs ys r here before level column row lt has =
    either (λ (less : level < at). omega (arith, before level column row less has, r.rises (place_in level column row)))
    (λ (not_less : at ≤ level).
    let same : level ≡ at = omega (arith, lt, not_less) in
    subst (λ l. number ≤ cell_at ys l column row) (sym same) (here column row (subst (λ l. HasCell (cells_of l b) column row) same has)))
    (cases_lt level at)

-- what is so of two numbers is so of the greater
pub of_max : (P : ℕ → Type 0) (m n : ℕ) → P m → P n → P (max m n)
of_max P m n p q = either (λ (is : max m n ≡ m). subst P (sym is) p) (λ (is : max m n ≡ n). subst P (sym is) q) (max_is m n)

-- one of the numbers of a row of cells
pub row_cell : (cells : List ℕ) (level : ℕ) (range : Cells) (row n : ℕ) → range.top ≤ row → row ≤ range.bottom
    → IsZeroOrOneOf cells level row range.left (range.right + 1) n → IsZeroOrCell cells level range n
row_cell cells level range row n top bottom (inl is) = inl is
row_cell cells level range row n top bottom (inr one) =
    inr (one.0, row, record { left = one.1; right = omega (arith, one.2); top = top; bottom = bottom }, one.3)

pub reached_more : (cells : List ℕ) (level row first at newest : ℕ) → ((k : ℕ) → first ≤ k → k < at → cell_at cells level k row ≤ newest)
    → (k : ℕ) → first ≤ k → k < at + 1 → cell_at cells level k row ≤ max (cell_at cells level at row) newest
reached_more cells level row first at newest before k le lt =
    either (λ (less : k < at). omega (arith, before k le less))
    (λ (not_less : at ≤ k). let same : at ≡ k = omega (arith, lt, not_less) in
    subst (λ j. cell_at cells level j row ≤ max (cell_at cells level at row) newest) same (omega arith)) (cases_lt k at)

pub reached_rows : (cells : List ℕ) (level : ℕ) (range : Cells) (at row_greatest newest : ℕ)
    → ((k : ℕ) → range.left ≤ k → k < range.right + 1 → cell_at cells level k at ≤ row_greatest)
    → ((column row : ℕ) → HasCell range column row → row < at → cell_at cells level column row ≤ newest)
    → (column row : ℕ) → HasCell range column row → row < at + 1 → cell_at cells level column row ≤ max row_greatest newest
reached_rows cells level range at row_greatest newest here before column row has lt =
    either (λ (less : row < at). omega (arith, before column row has less))
    (λ (not_less : at ≤ row). let same : at ≡ row = omega (arith, lt, not_less) in
    omega (arith, subst (λ i. cell_at cells level column i ≤ row_greatest) same (here column has.left (omega (arith, has.right))))) (cases_lt row at)

-- ---- the least of the greatest

pub greatest_below : (cells : List ℕ) (level : ℕ) (range : Cells) (a b : ℕ) → IsGreatestIn cells level range a → IsGreatestIn cells level range b → a ≤ b
greatest_below cells level range a b of_a of_b = elim (of_a.found) [
  | inl none ↦ omega (arith, none)
  | inr one ↦ omega (arith, one.3, of_b.reached one.0 one.1 one.2)
]

min_is : (m n : ℕ) → (min m n ≡ m) ⊎ (min m n ≡ n)
min_is m n = either (λ (lt : m < n). inl (omega (arith, lt))) (λ (le : n ≤ m). inr (omega (arith, le))) (cases_lt m n)

module _ (cells : List ℕ) (b : WorldBox) where
  -- the first level
  pub newest_first : (n : ℕ) → IsGreatestIn cells 0 (cells_of 0 b) n → IsNewestIn 1 cells b n
  newest_first n of_n = record {
    least = λ level m within looked of_m. let same : level ≡ 0 = omega (arith, within) in
        greatest_below cells 0 (cells_of 0 b) n m of_n (subst (λ l. IsGreatestIn cells l (cells_of l b) m) same of_m);
    found = (0, omega arith, inl refl, of_n);
  }

  -- a level more, which is looked at
  pub newest_more : (at n m : ℕ) → IsNarrow at (cells_of at b) → IsGreatestIn cells at (cells_of at b) m → IsNewestIn at cells b n
      → IsNewestIn (at + 1) cells b (min m n)
  newest_more at n m narrow of_m before = record {
    least = λ level k within looked of_k. either (λ (less : level < at). omega (arith, before.least level k less looked of_k))
        (λ (not_less : at ≤ level).
        let same : level ≡ at = omega (arith, within, not_less) in
        omega (arith, greatest_below cells at (cells_of at b) m k of_m (subst (λ l. IsGreatestIn cells l (cells_of l b) k) same of_k)))
        (cases_lt level at);
    found = either
        (λ (is : min m n ≡ m). (at, omega arith, inr narrow, subst (IsGreatestIn cells at (cells_of at b)) (sym is) of_m))
        (λ (is : min m n ≡ n). (
          before.found.0,
          omega (arith, before.found.1),
          before.found.2,
          subst (IsGreatestIn cells before.found.0 (cells_of before.found.0 b)) (sym is) before.found.3,
        ))
        (min_is m n);
  }

  -- one that isn't
  pub newest_same : (at n : ℕ) → 0 < at → ¬ IsNarrow at (cells_of at b) → IsNewestIn at cells b n → IsNewestIn (at + 1) cells b n
  newest_same at n later wide before = record {
    least = λ level k within looked of_k. either (λ (less : level < at). before.least level k less looked of_k)
        (λ (not_less : at ≤ level).
        let same : level ≡ at = omega (arith, within, not_less) in
        either (λ (first : level ≡ 0). absurd (omega (arith, first, same, later)))
        (λ (narrow : IsNarrow level (cells_of level b)). absurd (wide (subst (λ l. IsNarrow l (cells_of l b)) same narrow))) looked)
        (cases_lt level at);
    found = (before.found.0, omega (arith, before.found.1), before.found.2, before.found.3);
  }

  pub newest_all : (levels at n : ℕ) → at ≤ levels → levels ≤ at → IsNewestIn at cells b n → IsNewestIn levels cells b n
  newest_all levels at n most all is = let same : at ≡ levels = omega (arith, most, all) in subst (λ l. IsNewestIn l cells b n) same is

-- cells have one newest number of a box
pub newest_once : (levels : ℕ) (cells : List ℕ) (b : WorldBox) (m n : ℕ) → IsNewestIn levels cells b m → IsNewestIn levels cells b n → m ≡ n
newest_once levels cells b m n of_m of_n = omega (
  arith,
  of_m.least of_n.found.0 n of_n.found.1 of_n.found.2 of_n.found.3,
  of_n.least of_m.found.0 m of_m.found.1 of_m.found.2 of_m.found.3,
)

-- ---- how many cells there are

ends : (level : ℕ) → (level_end level ≡ LEVEL_CELLS * (level + 1)) × (level < LEVELS) ⊎ (level_end level ≡ WIDE_CELLS) × (LEVELS ≤ level)
ends level = go (nat_lt level LEVELS) refl
  where
    go : (b : Bool) → nat_lt level LEVELS ≡ b
        → ((if b then LEVEL_CELLS * (level + 1) else WIDE_CELLS) ≡ LEVEL_CELLS * (level + 1)) × (level < LEVELS)
        ⊎ ((if b then LEVEL_CELLS * (level + 1) else WIDE_CELLS) ≡ WIDE_CELLS) × (LEVELS ≤ level)
    go true is = inl (refl, ltb-true level LEVELS is)
    go false is = inr (refl, ltb-false level LEVELS is)
