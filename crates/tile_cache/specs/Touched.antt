-- Which edits a grid remembers, and which of them reach a tile.
use Rattle.std.specs.Prelude.{◌≡◌, ℕ, ◌^◌, ◌-◌, ◌<◌, ◌≤◌, ◌⊎◌, List, map, All, Contains, slice_index, nat_le, if◌then◌else◌}
use Rattle.feature_model.specs.declared.feature.WorldBox.{WorldBox}
use Rattle.tile_cutter.specs.WorldBox.{tile_box, Meets}
use Rattle.feature_model.specs.declared.limits.TheConstants.{MAX_ZOOM}
use Rattle.tile_cache.specs.declared.touch_grid.TheConstants.{WIDE_LEVELS}
use Rattle.tile_cache.specs.Cells.{place_in, cell_at, cells_of, HasCell, IsOfBox, IsLookedAt, IsNewestIn}

-- an edit that was noted: the box that it touched, and its number
abbrev pub Mark : Type 0
Mark = WorldBox × ℕ

-- the sides of a box aren't the wrong way round
pub record IsOrdered (b : WorldBox) : Type 0 where
  pub across : b.x0 ≤ b.x1
  pub down : b.y0 ≤ b.y1

-- a box can reach a tile: it meets the box that the tile shows
pub record Reaches (b : WorldBox) (zoom column row : ℕ) : Type 0 where
  pub ordered : IsOrdered b
  pub meets : Meets b (tile_box zoom column row)

-- a box touches the cell of this level, column and row
pub record Touches (b : WorldBox) (level column row : ℕ) : Type 0 where
  pub ordered : IsOrdered b
  pub cell : HasCell (cells_of level b) column row

-- the place of the number of a cell that a box touches
abbrev pub TouchesPlace : WorldBox → ℕ → Type 0
TouchesPlace b at = IsOrdered b × IsOfBox b at

-- the numbers at all places that no marked box touches are unchanged
abbrev pub StaysElsewhere : List Mark → (old new : List ℕ) → Type 0
StaysElsewhere marks old new = (at : ℕ) → All (λ m. ¬ TouchesPlace m.0 at) marks → slice_index new at ≡ slice_index old at

-- 0, or the number of a mark
abbrev pub IsZeroOrMarked : List Mark → ℕ → Type 0
IsZeroOrMarked marks n = (n ≡ 0) ⊎ Contains (map (λ m. m.1) marks) n

-- cells of so many levels have at least the number of each mark that touches them, and only numbers of marks
pub record RemembersIn (levels : ℕ) (cells : List ℕ) (marks : List Mark) : Type 0 where
  pub reached : (level column row : ℕ) → level < levels → All (λ m. Touches m.0 level column row → m.1 ≤ cell_at cells level column row) marks
  pub only : (at : ℕ) → IsZeroOrMarked marks (slice_index cells at)

-- the same with the wide level
abbrev pub Remembers : List ℕ → List Mark → Type 0
Remembers = RemembersIn WIDE_LEVELS

-- a number is at least that of each mark that can reach the tile, and 0 or the number of a mark
pub record IsNewest (marks : List Mark) (zoom column row n : ℕ) : Type 0 where
  pub reached : All (λ m. Reaches m.0 zoom column row → m.1 ≤ n) marks
  pub only : IsZeroOrMarked marks n

-- the world
abbrev pub world : WorldBox
world = record { x0 = 0; x1 = 2 ^ 32 - 1; y0 = 0; y1 = 2 ^ 32 - 1 }

-- the box that a tile shows: the world above the greatest zoom, where no tile shows anything
abbrev pub shown_box : (zoom column row : ℕ) → WorldBox
shown_box zoom column row = if nat_le zoom MAX_ZOOM then tile_box zoom column row else world

-- the newest edit of the cells that the box of a tile touches, of the level where it is the least
abbrev pub IsNewestOf : List ℕ → (zoom column row : ℕ) → ℕ → Type 0
IsNewestOf cells zoom column row = IsNewestIn WIDE_LEVELS cells (shown_box zoom column row)

-- No marked box touches a cell of the box of a tile, or one that shares its number with such a cell, on the levels that are looked at for
-- the tile.
abbrev pub IsClear : List Mark → (zoom column row : ℕ) → Type 0
IsClear marks zoom column row =
    (level across down : ℕ) → level < WIDE_LEVELS → IsLookedAt level (shown_box zoom column row)
    → HasCell (cells_of level (shown_box zoom column row)) across down
    → All (λ m. ¬ TouchesPlace m.0 (place_in level across down)) marks
