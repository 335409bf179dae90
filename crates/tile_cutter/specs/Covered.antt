-- Which tiles show something of a feature.
use Rattle.std.specs.Prelude.{ℕ, ◌+◌, ◌-◌, ◌*◌, ◌/◌, ◌^◌, ◌≤◌, min, max, List, [], ◌∷◌, map, flat_map, fold, sum_by}
use Rattle.std.specs.List.{range_with_len}
use Rattle.std.specs.Int.{div_ceil}
use Rattle.feature_model.specs.declared.feature.World.{World}
use Rattle.feature_model.specs.Data.{FeatureData, GeometryData, world_points, world_lines, world_polygons}
use Rattle.tile_cutter.specs.declared.coordinates.TheConstants.{EXTENT, MARGIN}
use Rattle.tile_cutter.specs.declared.reach.TileRange.{TileRange}
use Rattle.tile_cutter.specs.Cut.{quantised_axis}

-- the points of lists
abbrev pub all_of : List (List World) → List World
all_of ls = flat_map (λ l. l) ls

-- all points of a geometry
abbrev pub all_points : GeometryData → List World
all_points (world_points ps) = ps
all_points (world_lines ls) = all_of ls
all_points (world_polygons ps) = flat_map all_of ps

-- the least and the greatest of numbers
abbrev pub least_of : List ℕ → ℕ
least_of [] = 0
least_of (n ∷ ns) = fold min n ns

abbrev pub greatest_of : List ℕ → ℕ
greatest_of [] = 0
greatest_of (n ∷ ns) = fold max n ns

-- the columns, or rows, of a zoom whose boxes are met from the least to the greatest coordinate
abbrev pub first_met : ℕ → ℕ
first_met least = div_ceil (least - (EXTENT + MARGIN)) EXTENT

abbrev pub last_met : ℕ → ℕ → ℕ
last_met zoom greatest = min (2 ^ zoom - 1) ((greatest + MARGIN) / EXTENT)

-- the tiles of a zoom that the bounding box of a geometry meets
unfoldable pub covered : GeometryData → ℕ → TileRange
covered g zoom =
    let xs = map (λ p. quantised_axis zoom p.x) (all_points g) in
    let ys = map (λ p. quantised_axis zoom p.y) (all_points g) in
    record { x0 = first_met (least_of xs); x1 = last_met zoom (greatest_of xs); y0 = first_met (least_of ys); y1 = last_met zoom (greatest_of ys) }

-- a tile of a range
pub record IsInRange (range : TileRange) (column row : ℕ) : Type 0 where
  pub left : range.x0 ≤ column
  pub right : column ≤ range.x1
  pub top : range.y0 ≤ row
  pub bottom : row ≤ range.y1

-- how many tiles a range has: its columns times its rows
abbrev pub tiles_of : TileRange → ℕ
tiles_of range = (range.x1 + 1 - range.x0) * (range.y1 + 1 - range.y0)

-- the reach of a feature: the tiles that it covers at all its zooms
unfoldable pub reach_of : FeatureData → ℕ
reach_of f = sum_by (λ zoom. tiles_of (covered f.geometry zoom)) (range_with_len f.minzoom (f.maxzoom + 1 - f.minzoom))
