-- The tiles of a zoom that numbered boxes of tiles have, by their ids along the curve (PMTiles 3, 4.1).
use Rattle.std.specs.Prelude.{◌≡◌, ◌<◌, ℕ, Bool, ◌&&◌, nat_le, List, map, filter, length, All, Contains}
use Rattle.std.specs.List.Sorted.{IsStrictlySortedBy}
use Rattle.std.specs.Map.{keys_of}
use Rattle.std.specs.Ordering.{nat_cmp}
use Rattle.hilbert_id.specs.Curve.{IsTileId}
use Rattle.tile_cutter.specs.declared.reach.TileRange.{TileRange}
use Rattle.tile_walk.specs.declared.numbered.Numbered.{Numbered}

-- whether a column and a row are in a range of tiles
abbrev pub has : TileRange → ℕ → ℕ → Bool
has r column row = nat_le r.x0 column && nat_le column r.x1 && nat_le r.y0 row && nat_le row r.y1

-- the numbers of the boxes that have a tile, in the order of the boxes
abbrev pub numbers_at : List Numbered → ℕ → ℕ → List ℕ
numbers_at bs column row = map (λ b. b.number) (filter (λ b. has b.range column row) bs)

-- the id of a tile that a box has, and the numbers of all boxes that have it
pub record IsTileOf (zoom : ℕ) (bs : List Numbered) (t : ℕ × List ℕ) : Type 0 where
  pub column : ℕ
  pub row : ℕ
  pub is_id : IsTileId zoom column row t.0
  pub numbers : t.1 ≡ numbers_at bs column row
  pub some : 0 < length t.1

-- all such tiles of a zoom, ascending by id
pub record AreTilesOf (zoom : ℕ) (bs : List Numbered) (ts : List (ℕ × List ℕ)) : Type 0 where
  pub ascending : IsStrictlySortedBy nat_cmp (keys_of ts)
  pub each : All (IsTileOf zoom bs) ts
  pub every : (column row id : ℕ) → IsTileId zoom column row id → 0 < length (numbers_at bs column row) → Contains (keys_of ts) id
