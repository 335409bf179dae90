-- What of a feature a tile shows, whole lists at a time.
use Rattle.std.specs.Prelude.{ℕ, ℤ, pos, neg_ℤ, ◌+◌, ◌-◌, ◌*◌, ◌/◌, ◌^◌, ◌+ℤ◌, ◌-ℤ◌, ◌*ℤ◌, ◌==◌, ◌&&◌, not, nat_le, int_le, int_lt, Bool, true, false, Option}
use Rattle.std.specs.Prelude.{Some, None, option_map, List, [], ◌∷◌, ◌++◌, map, filter, fold, flat_map, zip, reverse, take, drop, length, if◌then◌else◌}
use Rattle.std.specs.List.{dedup, slice_split}
use Rattle.std.specs.Int.{int_min, int_max}
use Rattle.std.specs.Ordering.{int_eq}
use Rattle.feature_model.specs.declared.feature.World.{World}
use Rattle.feature_model.specs.Data.{FeatureData, GeometryData, world_points, world_lines, world_polygons, TagData, ValueData, text_value, natural_value}
use Rattle.feature_model.specs.Data.{negative_value, truth_value}
use Rattle.geometry_commands.specs.declared.point.Pt.{Pt}
use Rattle.geometry_commands.specs.Shapes.{ShapeView, points, lines, rings}
use Rattle.mvt_layer.specs.Tile.{FeatureView, TagView, Tagged, text, natural, negative, truth}
use Rattle.tile_cutter.specs.declared.coordinates.TheConstants.{EXTENT, MARGIN, WORLD_ZOOM}

-- a coordinate of the world as a zoom sees it, rounded down
abbrev pub quantised_axis : ℕ → ℕ → ℕ
quantised_axis zoom w = w / 2 ^ (WORLD_ZOOM - zoom)

-- a point of the world as a zoom sees it
abbrev pub quantised : ℕ → World → World
quantised zoom p = record { x = quantised_axis zoom p.x; y = quantised_axis zoom p.y }

abbrev pub is_same : World → World → Bool
is_same p q = (p.x == q.x) && (p.y == q.y)

-- a list of points as a zoom sees it: each that equals the one before it left out
abbrev pub quantised_points : ℕ → List World → List World
quantised_points zoom ps = dedup is_same (map (quantised zoom) ps)

-- the last point of a list that begins with p
abbrev pub last_from : World → List World → World
last_from p [] = p
last_from p (q ∷ qs) = last_from q qs

-- whether the last point of a ring is the first again
abbrev pub is_closed : List World → Bool
is_closed [] = false
is_closed (p ∷ ps) = is_same p (last_from p ps)

-- the points of a ring, a last one that equals the first left out
abbrev pub open_ring : List World → List World
open_ring ps = if is_closed ps then take (length ps - 1) ps else ps

-- the coordinates of a quantised point in the tile of a column and a row
abbrev pub position_in : ℕ → ℕ → World → Pt
position_in column row p = record { x = pos p.x -ℤ pos (EXTENT * column); y = pos p.y -ℤ pos (EXTENT * row) }

-- a list of points in a tile
abbrev pub tile_points : ℕ → ℕ → ℕ → List World → List Pt
tile_points zoom column row ps = map (position_in column row) (quantised_points zoom ps)

-- a ring in a tile
abbrev pub tile_ring : ℕ → ℕ → ℕ → List World → List Pt
tile_ring zoom column row ps = map (position_in column row) (open_ring (quantised_points zoom ps))

-- the box of a tile reaches from here to there, ends included, across and down
abbrev pub box_start : ℤ
box_start = neg_ℤ (pos MARGIN)

abbrev pub box_end : ℤ
box_end = pos (EXTENT + MARGIN)

-- whether a point is in the box
abbrev pub in_box : Pt → Bool
in_box p = int_le box_start p.x && int_le p.x box_end && int_le box_start p.y && int_le p.y box_end

-- the corners of the bounding box of two points
abbrev pub least_corner : Pt → Pt → Pt
least_corner p q = record { x = int_min p.x q.x; y = int_min p.y q.y }

abbrev pub greatest_corner : Pt → Pt → Pt
greatest_corner p q = record { x = int_max p.x q.x; y = int_max p.y q.y }

-- whether a bounding box, by its corners, meets the box
abbrev pub reaches_box : Pt → Pt → Bool
reaches_box least greatest = int_le least.x box_end && int_le box_start greatest.x && int_le least.y box_end && int_le box_start greatest.y

-- whether the bounding box of points does
abbrev pub meets_box : List Pt → Bool
meets_box [] = false
meets_box (p ∷ ps) = reaches_box (fold least_corner p ps) (fold greatest_corner p ps)

-- the points that a tile shows
unfoldable pub points_cut : ℕ → ℕ → ℕ → List World → List Pt
points_cut zoom column row ps = filter in_box (tile_points zoom column row ps)

abbrev pub Segment : Type 0
Segment = Pt × Pt

-- each point with the next
abbrev pub segments : List Pt → List Segment
segments ps = zip ps (drop 1 ps)

-- a segment whose bounding box meets the box
abbrev pub is_kept : Segment → Bool
is_kept s = meets_box (s.0 ∷ s.1 ∷ [])

-- the way along segments of which each begins where the one before it ends
abbrev pub way_along : List Segment → List Pt
way_along [] = []
way_along (s ∷ ss) = s.0 ∷ map (λ t. t.1) (s ∷ ss)

abbrev pub is_some_segment : List Segment → Bool
is_some_segment [] = false
is_some_segment (s ∷ ss) = true

-- what a tile shows of a line: each longest chain of consecutive segments that are kept
unfoldable pub line_cut : ℕ → ℕ → ℕ → List World → List (List Pt)
line_cut zoom column row ps = map way_along (filter is_some_segment (slice_split (λ s. not (is_kept s)) (segments (tile_points zoom column row ps))))

unfoldable pub lines_cut : ℕ → ℕ → ℕ → List (List World) → List (List Pt)
lines_cut zoom column row ls = flat_map (line_cut zoom column row) ls

abbrev pub cross : Segment → ℤ
cross s = (s.0.x *ℤ s.1.y) -ℤ (s.1.x *ℤ s.0.y)

-- twice the area of a ring by the surveyor's formula, positive where it turns right
unfoldable pub twice_area : List Pt → ℤ
twice_area ps = fold ◌+ℤ◌ (pos 0) (map cross (segments (ps ++ take 1 ps)))

-- a ring has three points and an area
abbrev pub is_ring : List Pt → Bool
is_ring ps = nat_le 3 (length ps) && not (int_eq (twice_area ps) (pos 0))

-- a ring the other way round, from the same first point
abbrev pub turned : List Pt → List Pt
turned [] = []
turned (p ∷ ps) = p ∷ reverse ps

-- an outer ring has positive area
abbrev pub outward : List Pt → List Pt
outward ps = if int_lt (twice_area ps) (pos 0) then turned ps else ps

-- an inner ring has negative area
abbrev pub inward : List Pt → List Pt
inward ps = if int_lt (pos 0) (twice_area ps) then turned ps else ps

-- the inner rings of a polygon that is shown
unfoldable pub inner_rings : ℕ → ℕ → ℕ → List (List World) → List (List Pt)
inner_rings zoom column row inners = map inward (filter is_ring (map (tile_ring zoom column row) inners))

-- what a tile shows of a polygon: all its rings where the outer one, which is the first, is a ring that meets the box
unfoldable pub polygon_cut : ℕ → ℕ → ℕ → List (List World) → List (List Pt)
polygon_cut zoom column row [] = []
polygon_cut zoom column row (outer ∷ inners) =
    if is_ring (tile_ring zoom column row outer) && meets_box (tile_ring zoom column row outer)
    then outward (tile_ring zoom column row outer) ∷ inner_rings zoom column row inners
    else []

unfoldable pub polygons_cut : ℕ → ℕ → ℕ → List (List (List World)) → List (List Pt)
polygons_cut zoom column row ps = flat_map (polygon_cut zoom column row) ps

-- nothing where nothing is left
abbrev pub unless_empty : {X : Type 0} → (List X → ShapeView) → List X → Option ShapeView
unless_empty shape [] = None
unless_empty shape (x ∷ xs) = Some (shape (x ∷ xs))

unfoldable pub geometry_cut : ℕ → ℕ → ℕ → GeometryData → Option ShapeView
geometry_cut zoom column row (world_points ps) = unless_empty points (points_cut zoom column row ps)
geometry_cut zoom column row (world_lines ls) = unless_empty lines (lines_cut zoom column row ls)
geometry_cut zoom column row (world_polygons ps) = unless_empty rings (polygons_cut zoom column row ps)

abbrev pub shown_value : ValueData → TagView
shown_value (text_value bytes) = text bytes
shown_value (natural_value n) = natural n
shown_value (negative_value z) = negative z
shown_value (truth_value b) = truth b

abbrev pub shown_tag : TagData → Tagged
shown_tag t = (t.key, shown_value t.value)

-- a feature of a tile, without a number
abbrev pub shown_with : List TagData → ShapeView → FeatureView
shown_with tags shape = record { id = None; tags = map shown_tag tags; shape = shape }

abbrev pub has_zoom : FeatureData → ℕ → Bool
has_zoom f zoom = nat_le f.minzoom zoom && nat_le zoom f.maxzoom

-- what of a feature the tile of a zoom, a column and a row shows
unfoldable pub feature_cut : FeatureData → ℕ → ℕ → ℕ → Option FeatureView
feature_cut f zoom column row = if has_zoom f zoom then option_map (shown_with f.tags) (geometry_cut zoom column row f.geometry) else None
