-- The distance of points from the origin.
use Rattle.std.specs.Prelude.{ℕ, ℤ, pos, neg_ℤ, ◌*◌, ◌^◌, ◌<◌, ◌+ℤ◌, ◌≤ℤ◌, ◌<ℤ◌, Bool, List, length, All}
use Rattle.geometry_commands.specs.declared.point.Pt.{Pt}
use Rattle.geometry_commands.specs.Shapes.{least}
use Rattle.tile_cutter.specs.declared.coordinates.TheConstants.{EXTENT}

-- a number of `bits` bits and a sign
pub record IsWithin (bits : ℕ) (u : ℤ) : Type 0 where
  pub low : neg_ℤ (pos (2 ^ bits)) ≤ℤ u
  pub high : u ≤ℤ pos (2 ^ bits)

-- a point so near that twice the area of a ring can be computed
pub record IsSmall (p : Pt) : Type 0 where
  pub across : IsWithin 45 p.x
  pub down : IsWithin 45 p.y

-- a coordinate in the tiles of a column or a row, of a zoom of fewer than 2^31 coordinates
pub record IsOfSide (at : ℕ) (u : ℤ) : Type 0 where
  pub low : pos 0 ≤ℤ (u +ℤ pos (EXTENT * at))
  pub high : (u +ℤ pos (EXTENT * at)) <ℤ pos (2 ^ 31)

-- a point in the tile of a column and a row
pub record IsOfTile (column row : ℕ) (p : Pt) : Type 0 where
  pub across : IsOfSide column p.x
  pub down : IsOfSide row p.y

-- a line, or a ring, which is closed, that can be written
pub record IsDrawable (closed : Bool) (column row : ℕ) (ps : List Pt) : Type 0 where
  pub long : least closed < length ps
  pub few : length ps < 2 ^ 29
  pub of_tile : All (IsOfTile column row) ps
