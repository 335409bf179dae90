-- The cells of each level: 32 in a row, and 32 rows of them; of the wide one, the last, 256 and 256.
use Rattle.std.specs.Prelude.{◌≡◌, ℕ, ◌+◌, ◌*◌, ◌/◌, ◌%◌, ◌^◌, ◌<◌, ◌≤◌, ◌⊎◌, List, length, slice_index, slice_range, count_by, nat_lt, if◌then◌else◌}
use Rattle.feature_model.specs.declared.feature.WorldBox.{WorldBox}
use Rattle.tile_cache.specs.declared.touch_grid.TheConstants.{SIDE, WIDE_SIDE, WIDE_MOST, LEVEL_CELLS, LEVELS, WIDE_LEVELS, CELLS, WIDE_CELLS, FINEST, CELL_BITS}
use Rattle.tile_cache.specs.declared.touch_grid.Cells.{Cells}

-- how many columns of cells with numbers of their own a level has, and rows
abbrev pub side_of : ℕ → ℕ
side_of level = if nat_lt level LEVELS then SIDE else WIDE_SIDE

-- a level is looked at for boxes that touch at most so many columns and rows of its cells
abbrev pub most_of : ℕ → ℕ
most_of level = if nat_lt level LEVELS then SIDE else WIDE_MOST

-- the place of the number of a cell, by its level, its column and its row: cells as many columns or rows apart as the level has share one
abbrev pub place_in : ℕ → ℕ → ℕ → ℕ
place_in level column row = LEVEL_CELLS * level + side_of level * (row % side_of level) + column % side_of level

-- the place after that of the last number of a level
abbrev pub level_end : ℕ → ℕ
level_end level = if nat_lt level LEVELS then LEVEL_CELLS * (level + 1) else WIDE_CELLS

-- there are numbers for all cells of so many levels
abbrev pub HasLevels : (levels : ℕ) → List ℕ → Type 0
HasLevels levels cells = (level : ℕ) → level < levels → level_end level ≤ length cells

-- the number of a cell
abbrev pub cell_at : List ℕ → ℕ → ℕ → ℕ → ℕ
cell_at cells level column row = slice_index cells (place_in level column row)

-- the column of cells of a level that has a column of the world, or the row that has a row
abbrev pub cell_of : ℕ → ℕ → ℕ
cell_of level coordinate = coordinate / 2 ^ slice_index CELL_BITS level

-- the cells of a level that a box of the world touches
abbrev pub cells_of : ℕ → WorldBox → Cells
cells_of level b = record { left = cell_of level b.x0; right = cell_of level b.x1; top = cell_of level b.y0; bottom = cell_of level b.y1 }

-- one of these cells is in this column and row
pub record HasCell (range : Cells) (column row : ℕ) : Type 0 where
  pub left : range.left ≤ column
  pub right : column ≤ range.right
  pub top : range.top ≤ row
  pub bottom : row ≤ range.bottom

-- the cells are of the world
pub record IsNear (range : Cells) : Type 0 where
  pub left : range.left < 2 ^ 32
  pub right : range.right < 2 ^ 32
  pub top : range.top < 2 ^ 32
  pub bottom : range.bottom < 2 ^ 32

-- the cells are so few that their level is looked at: no two of them share a number
pub record IsNarrow (level : ℕ) (range : Cells) : Type 0 where
  pub across : range.right < range.left + most_of level
  pub down : range.bottom < range.top + most_of level

-- no number falls, and each that changes becomes this one
pub record RisesTo (number : ℕ) (old new : List ℕ) : Type 0 where
  pub length : length new ≡ length old
  pub rises : (at : ℕ) → slice_index old at ≤ slice_index new at
  pub only : (at : ℕ) → (slice_index new at ≡ slice_index old at) ⊎ (slice_index new at ≡ number)

-- the place of the number of one of the cells of a row from one column up to another
abbrev pub IsInRow : (level row first end : ℕ) → ℕ → Type 0
IsInRow level row first end at = (column : ℕ) × (first ≤ column) × (column < end) × (place_in level column row ≡ at)

-- the place of the number of one of these cells
abbrev pub IsOfCells : ℕ → Cells → ℕ → Type 0
IsOfCells level range at = (column : ℕ) × (row : ℕ) × HasCell range column row × (place_in level column row ≡ at)

-- the place of the number of a cell that a box of the world touches, on one of the levels
abbrev pub IsOfBox : WorldBox → ℕ → Type 0
IsOfBox b at = (level : ℕ) × (level < WIDE_LEVELS) × IsOfCells level (cells_of level b) at

-- the numbers at all other places are unchanged
abbrev pub StaysBut : (Raised : ℕ → Type 0) → (old new : List ℕ) → Type 0
StaysBut Raised old new = (at : ℕ) → ¬ Raised at → slice_index new at ≡ slice_index old at

-- 0, or the number of one of the cells of a row from one column up to another
abbrev pub IsZeroOrOneOf : List ℕ → (level row first end : ℕ) → ℕ → Type 0
IsZeroOrOneOf cells level row first end n =
    (n ≡ 0) ⊎ ((column : ℕ) × (first ≤ column) × (column < end) × (n ≡ cell_at cells level column row))

-- 0, or the number of one of these cells
abbrev pub IsZeroOrCell : List ℕ → ℕ → Cells → ℕ → Type 0
IsZeroOrCell cells level range n = (n ≡ 0) ⊎ ((column : ℕ) × (row : ℕ) × HasCell range column row × (n ≡ cell_at cells level column row))

-- the greatest of the numbers of these cells
pub record IsGreatestIn (cells : List ℕ) (level : ℕ) (range : Cells) (n : ℕ) : Type 0 where
  pub reached : (column row : ℕ) → HasCell range column row → cell_at cells level column row ≤ n
  pub found : IsZeroOrCell cells level range n

-- a level is looked at for a box: the first one, and each of which the box touches few cells
abbrev pub IsLookedAt : (level : ℕ) → WorldBox → Type 0
IsLookedAt level b = (level ≡ 0) ⊎ IsNarrow level (cells_of level b)

-- of those of so many levels that are looked at, the least of the greatest numbers of the cells that a box touches
pub record IsNewestIn (levels : ℕ) (cells : List ℕ) (b : WorldBox) (n : ℕ) : Type 0 where
  pub least : (level m : ℕ) → level < levels → IsLookedAt level b → IsGreatestIn cells level (cells_of level b) m → n ≤ m
  pub found : (level : ℕ) × (level < levels) × IsLookedAt level b × IsGreatestIn cells level (cells_of level b) n

-- how many numbers of the finest level of 32 by 32 are above this one: how many of its cells an edit after this one has touched
abbrev pub stale_cells : List ℕ → (number : ℕ) → ℕ
stale_cells cells number = count_by (nat_lt number) (slice_range cells FINEST CELLS)

-- a box has the whole of another
pub record HasWhole (outer inner : WorldBox) : Type 0 where
  pub left : outer.x0 ≤ inner.x0
  pub right : inner.x1 ≤ outer.x1
  pub top : outer.y0 ≤ inner.y0
  pub bottom : inner.y1 ≤ outer.y1
