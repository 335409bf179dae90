-- Boxes of the world: of a geometry, and of what a tile shows.
use Rattle.std.specs.Prelude.{ℕ, ◌+◌, ◌-◌, ◌*◌, ◌^◌, ◌≤◌, min, map}
use Rattle.feature_model.specs.Data.{GeometryData}
use Rattle.tile_cutter.specs.declared.coordinates.TheConstants.{EXTENT, MARGIN, WORLD_ZOOM}
use Rattle.feature_model.specs.declared.feature.WorldBox.{WorldBox}
use Rattle.tile_cutter.specs.Covered.{all_points, least_of, greatest_of}

-- the bounding box of a geometry
unfoldable pub bounding_box : GeometryData → WorldBox
bounding_box g =
    let xs = map (λ p. p.x) (all_points g) in
    let ys = map (λ p. p.y) (all_points g) in
    record { x0 = least_of xs; x1 = greatest_of xs; y0 = least_of ys; y1 = greatest_of ys }

-- the first and the last coordinate of the world in the box of a column, or a row
abbrev pub first_shown : ℕ → ℕ → ℕ
first_shown zoom at = min (2 ^ 32 - 1) ((EXTENT * at - MARGIN) * 2 ^ (WORLD_ZOOM - zoom))

abbrev pub last_shown : ℕ → ℕ → ℕ
last_shown zoom at = min (2 ^ 32 - 1) ((EXTENT * at + (EXTENT + MARGIN + 1)) * 2 ^ (WORLD_ZOOM - zoom) - 1)

-- the box of the world that a tile shows
unfoldable pub tile_box : ℕ → ℕ → ℕ → WorldBox
tile_box zoom column row = record {
  x0 = first_shown zoom column;
  x1 = last_shown zoom column;
  y0 = first_shown zoom row;
  y1 = last_shown zoom row;
}

-- two boxes have a point in common
pub record Meets (a b : WorldBox) : Type 0 where
  pub left : a.x0 ≤ b.x1
  pub right : b.x0 ≤ a.x1
  pub top : a.y0 ≤ b.y1
  pub bottom : b.y0 ≤ a.y1
