-- A square that is being cut.
use Rattle.std.specs.Prelude.{◌≡◌, ℕ, ◌-◌, ◌<◌, ◌≤◌, ◌^◌, List, length, take, Some}
use Rattle.std.specs.List.{slice_get}
use Rattle.tile_walk.specs.Quarters.{ArePlaced}
use Rattle.tile_walk.specs.declared.cut.Cut.{Cut}
use Rattle.tile_walk.specs.declared.numbered.Numbered.{Numbered}
use Rattle.tile_walk.specs.declared.quarter.Quarter.TheVariants.{First, Second, Third, Fourth}
use Rattle.tile_walk.specs.declared.square.Square.{Square}

-- these boxes of a square are placed in its quarters
pub record AreInQuarters (half : ℕ) (bs : List Numbered) (c : Cut) : Type 0 where
  pub first : ArePlaced First half bs c.first.items
  pub second : ArePlaced Second half bs c.second.items
  pub third : ArePlaced Third half bs c.third.items
  pub fourth : ArePlaced Fourth half bs c.fourth.items

-- the first boxes of the square are placed in its quarters
pub record IsCut (s : Square) (c : Cut) : Type 0 where
  pub some : 0 < s.zoom
  pub few : c.placed < 2 ^ 64
  pub within : c.placed ≤ length s.boxes.items
  pub quarters : AreInQuarters (2 ^ (s.zoom - 1)) (take c.placed s.boxes.items) c

-- the same of the last one of squares
abbrev pub IsCutOfLast : List Square → Cut → Type 0
IsCutOfLast ss c = (s : Square) → Some s ≡ slice_get ss (length ss - 1) → IsCut s c
