-- The number of integers that encode what a tile shows of a geometry: at most the bytes of the geometry's text.
use Rattle.std.proofs.Common.{◌≡◌, ℕ, ◌+◌, ◌*◌, ◌≤◌, suc, pos, Bool, true, false, cond, not, ◌&&◌, List, [], ◌∷◌, ◌++◌, map, length, Some, refl, subst, arith}
use Rattle.std.specs.Prelude.{filter, int_lt}
use Rattle.std.specs.List.{flat_map, slice_split, onto_first}
use Rattle.std.proofs.lemmas.List.{length-append, length-map}
use Rattle.feature_model.specs.declared.feature.World.{World}
use Rattle.feature_model.specs.Data.{FeatureData, GeometryData, world_points, world_lines, world_polygons}
use Rattle.feature_model.specs.Spelled.{spelled_line, spelled_list, spelled_geometry}
use Rattle.feature_model.proofs.TextLengths.{length-spelled_line, length-spelled_list, length-points_text, length-lines_text, length-polygons_text}
use Rattle.geometry_commands.specs.declared.point.Pt.{Pt}
use Rattle.geometry_commands.specs.Commands.{steps, points_spelled, origin}
use Rattle.geometry_commands.specs.Shapes.{ShapeView, points, lines, rings, last_of, close_spelled, line_spelled, lines_spelled, shape_spelled}
use Rattle.mvt_layer.specs.Tile.{FeatureView}
use Rattle.tile_cutter.specs.Cut.{Segment, segments, is_kept, way_along, is_some_segment, tile_points, tile_ring, is_ring, twice_area, turned, meets_box}
use Rattle.tile_cutter.specs.Cut.{inward, outward}
use Rattle.tile_cutter.specs.Cut.{points_cut, line_cut, lines_cut, inner_rings, polygon_cut, polygons_cut, geometry_cut, feature_cut}
use Rattle.tile_cutter.proofs.Chains.{is_left_out}
use Rattle.tile_cutter.proofs.Drawn.{length_segments}
use Rattle.tile_cutter.proofs.Kept.{length_points, length_ring}
use Rattle.tile_cutter.proofs.Shown.{unless_some, shape_left}
use Rattle.tile_cutter.proofs.Spelled.{length_points_cut}
use Rattle.tile_cutter.proofs.Turned.{length_turned, ring_long}

-- ---- the integers of lists of points

length_steps : (p : Pt) (qs : List Pt) → length (steps p qs) ≡ 2 * length qs
length_steps p [] = refl
length_steps p (q ∷ qs) = omega (arith, length_steps q qs)

length_close : (closed : Bool) → length (close_spelled closed) ≤ 1
length_close true = omega arith
length_close false = omega arith

length_line : (closed : Bool) (from : Pt) (l : List Pt) → length (line_spelled closed from l) ≤ 3 + 2 * length l
unfolding line_spelled
length_line closed from [] = omega arith
length_line closed from (p ∷ ps) = omega (arith, length-append (steps p ps) (close_spelled closed), length_steps p ps, length_close closed)

-- a bound on the integers that encode lists of points, one after the other
abbrev pub most_for : List (List Pt) → ℕ
most_for [] = 0
most_for (l ∷ ls) = 3 + 2 * length l + most_for ls

length_lines : (closed : Bool) (from : Pt) (ls : List (List Pt)) → length (lines_spelled closed from ls) ≤ most_for ls
unfolding lines_spelled
length_lines closed from [] = omega arith
length_lines closed from (l ∷ ls) =
    let others = lines_spelled closed (last_of from l) ls in
    omega (arith, length-append (line_spelled closed from l) others, length_line closed from l, length_lines closed (last_of from l) ls)

length_points_spelled : (ps : List Pt) → length (points_spelled ps) ≤ 1 + 2 * length ps
length_points_spelled [] = omega arith
length_points_spelled (p ∷ ps) = omega (arith, length_steps p ps)

most-append : (ks ls : List (List Pt)) → most_for (ks ++ ls) ≡ most_for ks + most_for ls
most-append [] ls = omega arith
most-append (k ∷ ks) ls = omega (arith, most-append ks ls)

-- what each item gives takes at most its text
most_each : {X : Type 0} (shown : X → List (List Pt)) (spell : X → List ℕ) (xs : List X) → ((x : X) → most_for (shown x) ≤ length (spell x))
    → most_for (flat_map shown xs) ≤ length (flat_map spell xs)
most_each shown spell [] each = omega arith
most_each shown spell (x ∷ xs) each =
    omega (arith, most-append (shown x) (flat_map shown xs), length-append (spell x) (flat_map spell xs), each x, most_each shown spell xs each)

-- ---- lines

-- how many segments parts have together
abbrev together : List (List Segment) → ℕ
together [] = 0
together (part ∷ parts) = length part + together parts

together-onto_first : (s : Segment) (parts : List (List Segment)) → together (onto_first s parts) ≡ suc (together parts)
together-onto_first s [] = omega arith
together-onto_first s (part ∷ parts) = omega arith

together-split : (ss : List Segment) → together (slice_split is_left_out ss) ≤ length ss
together-split [] = omega arith
together-split (s ∷ ss) = by (is_kept s) (together-split ss)
  where
    by : (b : Bool) → together (slice_split is_left_out ss) ≤ length ss
        → together (cond (not b) ([] ∷ slice_split is_left_out ss) (onto_first s (slice_split is_left_out ss))) ≤ suc (length ss)
    by true less = omega (arith, together-onto_first s (slice_split is_left_out ss))
    by false less = omega arith

most_ways : (parts : List (List Segment)) → most_for (map way_along (filter is_some_segment parts)) ≤ 7 * together parts
most_ways [] = omega arith
most_ways ([] ∷ parts) = omega (arith, most_ways parts)
most_ways ((s ∷ ss) ∷ parts) = omega (arith, most_ways parts, length-map ss (λ (t : Segment). t.1))

module _ (zoom column row : ℕ) where
  most_line : (ps : List World) → most_for (line_cut zoom column row ps) ≤ length (spelled_line ps)
  unfolding line_cut
  most_line ps =
      let tile = tile_points zoom column row ps in
      let parts = slice_split is_left_out (segments tile) in
      omega (arith, most_ways parts, together-split (segments tile), length_segments tile, length_points zoom column row ps, length-spelled_line ps)

  most_lines : (ls : List (List World)) → most_for (lines_cut zoom column row ls) ≤ length (flat_map spelled_line ls)
  unfolding lines_cut
  most_lines ls = most_each (line_cut zoom column row) spelled_line ls most_line

  -- ---- polygons

  -- a ring, whichever way round
  most_ring : (ps : List World) (b : Bool) → is_ring (tile_ring zoom column row ps) ≡ true
      → 3 + 2 * length (cond b (turned (tile_ring zoom column row ps)) (tile_ring zoom column row ps)) ≤ length (spelled_line ps)
  most_ring ps true is =
      let ring = tile_ring zoom column row ps in
      omega (arith, length_turned ring, ring_long ring is, length_ring zoom column row ps, length-spelled_line ps)
  most_ring ps false is = omega (arith, ring_long (tile_ring zoom column row ps) is, length_ring zoom column row ps, length-spelled_line ps)

  most_inner : (rs : List (List World)) → most_for (inner_rings zoom column row rs) ≤ length (flat_map spelled_line rs)
  unfolding inner_rings
  most_inner [] = omega arith
  most_inner (r ∷ rs) = by (is_ring (tile_ring zoom column row r)) refl (most_inner rs)
    where
      by : (b : Bool) → is_ring (tile_ring zoom column row r) ≡ b
          → most_for (map inward (filter is_ring (map (tile_ring zoom column row) rs))) ≤ length (flat_map spelled_line rs)
          → most_for (map inward
          (cond b (tile_ring zoom column row r ∷ filter is_ring (map (tile_ring zoom column row) rs))
          (filter is_ring (map (tile_ring zoom column row) rs))))
          ≤ length (spelled_line r ++ flat_map spelled_line rs)
      by true is rest =
          omega (arith, length-append (spelled_line r) (flat_map spelled_line rs), most_ring r (int_lt (pos 0) (twice_area (tile_ring zoom column row r))) is)
      by false is rest = omega (arith, length-append (spelled_line r) (flat_map spelled_line rs))

  most_polygon : (polygon : List (List World)) → most_for (polygon_cut zoom column row polygon) ≤ length (spelled_list spelled_line polygon)
  unfolding polygon_cut
  most_polygon [] = omega arith
  most_polygon (r ∷ rs) = by (is_ring (tile_ring zoom column row r)) refl (meets_box (tile_ring zoom column row r)) (most_inner rs)
    where
      by : (b : Bool) → is_ring (tile_ring zoom column row r) ≡ b → (meets : Bool)
          → most_for (inner_rings zoom column row rs) ≤ length (flat_map spelled_line rs)
          → most_for (cond (b && meets) (outward (tile_ring zoom column row r) ∷ inner_rings zoom column row rs) [])
          ≤ length (spelled_list spelled_line (r ∷ rs))
      by true is true rest =
          omega (
            arith,
            length-spelled_list spelled_line (r ∷ rs),
            length-append (spelled_line r) (flat_map spelled_line rs),
            most_ring r (int_lt (twice_area (tile_ring zoom column row r)) (pos 0)) is,
          )
      by true is false rest = omega arith
      by false is meets rest = omega arith

  most_polygons : (ps : List (List (List World))) → most_for (polygons_cut zoom column row ps) ≤ length (flat_map (spelled_list spelled_line) ps)
  unfolding polygons_cut
  most_polygons ps = most_each (polygon_cut zoom column row) (spelled_list spelled_line) ps most_polygon

  -- ---- shapes

  length_shape : (g : GeometryData) (s : ShapeView) → geometry_cut zoom column row g ≡ Some s → length (shape_spelled s) ≤ length (spelled_geometry g)
  unfolding geometry_cut
  length_shape (world_points ps) s h =
      let shown = points_cut zoom column row ps in
      subst (λ t. length (shape_spelled t) ≤ length (spelled_geometry (world_points ps))) (unless_some points shown s h).0
      (omega (arith, length_points_spelled shown, length_points_cut zoom column row ps, length-points_text ps, length-spelled_line ps))
  length_shape (world_lines ls) s h =
      let shown = lines_cut zoom column row ls in
      subst (λ t. length (shape_spelled t) ≤ length (spelled_geometry (world_lines ls))) (unless_some lines shown s h).0
      (omega (arith, length_lines false origin shown, most_lines ls, length-lines_text ls, length-spelled_list spelled_line ls))
  length_shape (world_polygons ps) s h =
      let shown = polygons_cut zoom column row ps in
      subst (λ t. length (shape_spelled t) ≤ length (spelled_geometry (world_polygons ps))) (unless_some rings shown s h).0
      (omega (arith, length_lines true origin shown, most_polygons ps, length-polygons_text ps, length-spelled_list (spelled_list spelled_line) ps))

  -- what is shown of a feature has no more integers than the text of its geometry has bytes
  pub integers_in_text : (f : FeatureData) (v : FeatureView) → feature_cut f zoom column row ≡ Some v
      → length (shape_spelled v.shape) ≤ length (spelled_geometry f.geometry)
  integers_in_text f v h = length_shape f.geometry v.shape (shape_left f zoom column row v h)
