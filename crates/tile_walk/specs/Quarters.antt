-- The quarters of a square of the curve, each in columns and rows of its own.
use Rattle.std.specs.Prelude.{◌≡◌, ℕ, ◌<◌, false, List}
use Rattle.hilbert_id.specs.Curve.{turned, below, across, flipped}
use Rattle.tile_cutter.specs.declared.reach.TileRange.{TileRange}
use Rattle.tile_walk.specs.Boxes.{has, numbers_at}
use Rattle.tile_walk.specs.declared.numbered.Numbered.{Numbered}
use Rattle.tile_walk.specs.declared.quarter.Quarter.{Quarter}
use Rattle.tile_walk.specs.declared.quarter.Quarter.TheVariants.{First, Second, Third, Fourth}

-- how many quarters the curve goes through before this one
abbrev pub order_of : Quarter → ℕ
order_of First = 0
order_of Second = 1
order_of Third = 2
order_of Fourth = 3

-- the column and the row of the square that a column and a row of a quarter are, by half the square's side
abbrev pub placed : Quarter → ℕ → ℕ × ℕ → ℕ × ℕ
placed First half p = turned p
placed Second half p = below half p
placed Third half p = across half p
placed Fourth half p = flipped half p

-- a range of the square has no tile of the quarter
abbrev pub IsApart : Quarter → ℕ → TileRange → Type 0
IsApart q half range = (column row : ℕ) → column < half → row < half → has range (placed q half (column, row)).0 (placed q half (column, row)).1 ≡ false

-- a range of the square has no tile of the other quarters
abbrev pub IsOnlyIn : Quarter → ℕ → TileRange → Type 0
IsOnlyIn First half range = IsApart Second half range × (IsApart Third half range × IsApart Fourth half range)
IsOnlyIn Second half range = IsApart First half range × (IsApart Third half range × IsApart Fourth half range)
IsOnlyIn Third half range = IsApart First half range × (IsApart Second half range × IsApart Fourth half range)
IsOnlyIn Fourth half range = IsApart First half range × (IsApart Second half range × IsApart Third half range)

-- a range of the quarter has the tiles there that a range of the square has
abbrev pub IsPlaced : Quarter → ℕ → TileRange → TileRange → Type 0
IsPlaced q half range r =
    (column row : ℕ) → column < half → row < half → has r column row ≡ has range (placed q half (column, row)).0 (placed q half (column, row)).1

-- each tile of the quarter has the numbers that it has in the square
abbrev pub ArePlaced : Quarter → ℕ → List Numbered → List Numbered → Type 0
ArePlaced q half bs cs =
    (column row : ℕ) → column < half → row < half → numbers_at cs column row ≡ numbers_at bs (placed q half (column, row)).0 (placed q half (column, row)).1
