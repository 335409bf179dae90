-- The bounding box of points of the world, one point after the other.
use Rattle.std.specs.Prelude.{ℕ, min, max, Option, Some, None, List, fold}
use Rattle.feature_model.specs.declared.feature.World.{World}
use Rattle.feature_model.specs.declared.feature.WorldBox.{WorldBox}
use Rattle.tile_cutter.specs.declared.reach.TileRange.{TileRange}
use Rattle.tile_cutter.specs.Cut.{quantised_axis}
use Rattle.tile_cutter.specs.Covered.{first_met, last_met}

-- with one point more
abbrev pub widened : Option WorldBox → World → WorldBox
widened None p = record { x0 = p.x; x1 = p.x; y0 = p.y; y1 = p.y }
widened (Some b) p = record { x0 = min b.x0 p.x; x1 = max b.x1 p.x; y0 = min b.y0 p.y; y1 = max b.y1 p.y }

abbrev pub widen : Option WorldBox → World → Option WorldBox
widen b p = Some (widened b p)

-- with the points of a list
abbrev pub bounds_after : Option WorldBox → List World → Option WorldBox
bounds_after b ps = fold widen b ps

-- the box, or that of the origin alone
abbrev pub box_or_origin : Option WorldBox → WorldBox
box_or_origin None = record { x0 = 0; x1 = 0; y0 = 0; y1 = 0 }
box_or_origin (Some b) = b

-- the tiles of a zoom that a box meets
abbrev pub range_of : Option WorldBox → ℕ → TileRange
range_of b zoom = record {
  x0 = first_met (quantised_axis zoom (box_or_origin b).x0);
  x1 = last_met zoom (quantised_axis zoom (box_or_origin b).x1);
  y0 = first_met (quantised_axis zoom (box_or_origin b).y0);
  y1 = last_met zoom (quantised_axis zoom (box_or_origin b).y1);
}
