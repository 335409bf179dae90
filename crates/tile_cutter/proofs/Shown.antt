-- What a tile shows of a feature that keeps the limits can be written, and its coordinates have 64 bits.
use Rattle.std.proofs.Common.{◌≡◌, ℕ, ◌^◌, ◌<◌, ◌≤◌, ℤ, pos, negsuc, Bool, true, false, cond, ◌&&◌, List, [], ◌∷◌, get_or, map, length, Option, Some, None}
use Rattle.std.proofs.Common.{refl, ap, subst, arith, if◌then◌else◌}
use Rattle.std.specs.Prelude.{All, filter, int_lt}
use Rattle.std.specs.Option.{option_map}
use Rattle.std.specs.List.{AllByRecursion}
use Rattle.std.proofs.lemmas.Bool.{lt-ltb}
use Rattle.std.proofs.lemmas.Int.{ints}
use Rattle.std.proofs.lemmas.List.Elements.{All-nil, All-cons, All-head, All-tail, All-weaker, recursion_from_All}
use Rattle.feature_model.specs.declared.feature.World.{World}
use Rattle.feature_model.specs.Data.{FeatureData, GeometryData, world_points, world_lines, world_polygons, TagData}
use Rattle.feature_model.specs.Limits.{CountFits, RingsFit, GeometryFits}
use Rattle.feature_model.specs.Types.{IsOfWorld, LiesInWorld}
use Rattle.feature_model.specs.declared.limits.TheConstants.{MAX_ZOOM}
use Rattle.geometry_commands.specs.declared.point.Pt.{Pt}
use Rattle.geometry_commands.specs.Encodable.{CanSpell, FitsShape}
use Rattle.geometry_commands.specs.Shapes.{ShapeView, points, lines, rings}
use Rattle.geometry_commands.specs.Ways.{fits_axis, fits, FitsPt}
use Rattle.mvt_layer.specs.Tile.{FeatureView}
use Rattle.tile_cutter.specs.Cut as cut
use Rattle.tile_cutter.specs.Cut.{tile_ring, is_ring, twice_area, meets_box, inward, outward, points_cut, line_cut, lines_cut, inner_rings, polygon_cut}
use Rattle.tile_cutter.specs.Cut.{polygons_cut, unless_empty, geometry_cut, shown_with, feature_cut}
use Rattle.tile_cutter.specs.Range.{IsOfSide, IsOfTile, IsDrawable}
use Rattle.tile_cutter.proofs.Drawn.{line_drawable, points_of_tile}
use Rattle.tile_cutter.proofs.Each.{each_all}
use Rattle.tile_cutter.proofs.Passes.{stands_at}
use Rattle.tile_cutter.proofs.Kept.{ring_keeps, length_ring, stands_in_tile}
use Rattle.tile_cutter.proofs.Spelled.{spelled_points, spelled_lines, length_points_cut}
use Rattle.tile_cutter.proofs.Turned.{turned_drawable, ring_long}
use Rattle.tile_cutter.proofs.Zooms.{side_low}

-- ---- coordinates of 64 bits

fits_side : (at : ℕ) (u : ℤ) → at < 2 ^ 19 → IsOfSide at u → fits_axis u ≡ true
fits_side at (pos n) small is = lt-ltb n (2 ^ 63) (omega (arith, ints, is.low, is.high))
fits_side at (negsuc n) small is = lt-ltb n (2 ^ 63) (omega (arith, ints, is.low, is.high))

fits_point : (column row : ℕ) (p : Pt) → column < 2 ^ 19 → row < 2 ^ 19 → IsOfTile column row p → FitsPt p
unfolding fits
fits_point column row p across down is = rw (fits_side column p.x across is.across, fits_side row p.y down is.down) refl

module _ (column row : ℕ) (across : column < 2 ^ 19) (down : row < 2 ^ 19) where
  fit_all : (ps : List Pt) → All (IsOfTile column row) ps → AllByRecursion FitsPt ps
  fit_all ps all = recursion_from_All FitsPt ps (All-weaker (IsOfTile column row) FitsPt (λ p is. fits_point column row p across down is) ps all)

  fit_lists : (closed : Bool) (ls : List (List Pt)) → All (IsDrawable closed column row) ls → AllByRecursion (AllByRecursion FitsPt) ls
  fit_lists closed [] all = tt
  fit_lists closed (l ∷ ls) all =
      (fit_all l (All-head (IsDrawable closed column row) l ls all).of_tile, fit_lists closed ls (All-tail (IsDrawable closed column row) l ls all))

-- ---- each list of points that is shown

module _ (zoom column row : ℕ) (allowed : zoom ≤ MAX_ZOOM) where
  lines_drawable : (ls : List (List World)) → All (CountFits 2) ls → All (All IsOfWorld) ls → All (IsDrawable false column row) (lines_cut zoom column row ls)
  unfolding lines_cut
  lines_drawable ls limits inside =
      each_all (IsDrawable false column row) (line_cut zoom column row) ls
      (λ k d lt. line_drawable zoom column row (get_or ls k d) (omega (arith, (limits k d lt).1))
      (All-weaker IsOfWorld (λ p. IsOfTile column row (stands_at zoom column row p)) (stands_in_tile zoom column row allowed) (get_or ls k d) (inside k d lt)))

  -- a ring of three points or more that has an area
  ring_drawable : (ps : List World) → CountFits 3 ps → All IsOfWorld ps → is_ring (tile_ring zoom column row ps) ≡ true
      → IsDrawable true column row (tile_ring zoom column row ps)
  ring_drawable ps limits inside is = record {
    long = ring_long (tile_ring zoom column row ps) is;
    few = omega (arith, length_ring zoom column row ps, limits.1);
    of_tile = ring_keeps (IsOfTile column row) zoom column row ps (stands_in_tile zoom column row allowed) inside;
  }

  inner_drawable : (rs : List (List World)) → All (CountFits 3) rs → All (All IsOfWorld) rs
      → All (IsDrawable true column row) (inner_rings zoom column row rs)
  unfolding inner_rings
  inner_drawable [] limits inside = All-nil (IsDrawable true column row)
  inner_drawable (r ∷ rs) limits inside =
      by (is_ring (tile_ring zoom column row r)) refl (inner_drawable rs (All-tail (CountFits 3) r rs limits) (All-tail (All IsOfWorld) r rs inside))
    where
      by : (b : Bool) → is_ring (tile_ring zoom column row r) ≡ b
          → All (IsDrawable true column row) (map inward (filter is_ring (map (tile_ring zoom column row) rs)))
          → All (IsDrawable true column row) (map inward
          (cond b (tile_ring zoom column row r ∷ filter is_ring (map (tile_ring zoom column row) rs))
          (filter is_ring (map (tile_ring zoom column row) rs))))
      by true is rest =
          All-cons (IsDrawable true column row) (inward (tile_ring zoom column row r)) (map inward (filter is_ring (map (tile_ring zoom column row) rs)))
          (turned_drawable column row (tile_ring zoom column row r) (int_lt (pos 0) (twice_area (tile_ring zoom column row r)))
          (ring_drawable r (All-head (CountFits 3) r rs limits) (All-head (All IsOfWorld) r rs inside) is)) rest
      by false is rest = rest

  polygon_drawable : (polygon : List (List World)) → All (CountFits 3) polygon → All (All IsOfWorld) polygon
      → All (IsDrawable true column row) (polygon_cut zoom column row polygon)
  unfolding polygon_cut
  polygon_drawable [] limits inside = All-nil (IsDrawable true column row)
  polygon_drawable (r ∷ rs) limits inside =
      by (is_ring (tile_ring zoom column row r)) refl (meets_box (tile_ring zoom column row r))
      (inner_drawable rs (All-tail (CountFits 3) r rs limits) (All-tail (All IsOfWorld) r rs inside))
    where
      by : (b : Bool) → is_ring (tile_ring zoom column row r) ≡ b → (meets : Bool) → All (IsDrawable true column row) (inner_rings zoom column row rs)
          → All (IsDrawable true column row) (cond (b && meets) (outward (tile_ring zoom column row r) ∷ inner_rings zoom column row rs) [])
      by true is true rest =
          All-cons (IsDrawable true column row) (outward (tile_ring zoom column row r)) (inner_rings zoom column row rs)
          (turned_drawable column row (tile_ring zoom column row r) (int_lt (twice_area (tile_ring zoom column row r)) (pos 0))
          (ring_drawable r (All-head (CountFits 3) r rs limits) (All-head (All IsOfWorld) r rs inside) is)) rest
      by true is false rest = All-nil (IsDrawable true column row)
      by false is meets rest = All-nil (IsDrawable true column row)

  polygons_drawable : (ps : List (List (List World))) → All RingsFit ps → All (All (All IsOfWorld)) ps
      → All (IsDrawable true column row) (polygons_cut zoom column row ps)
  unfolding polygons_cut
  polygons_drawable ps limits inside =
      each_all (IsDrawable true column row) (polygon_cut zoom column row) ps (λ k d lt. polygon_drawable (get_or ps k d) (limits k d lt).1 (inside k d lt))

-- ---- a shape

-- it can be written, and 64 bits hold its coordinates
abbrev pub IsShown : ShapeView → Type 0
IsShown s = CanSpell s × FitsShape s

-- what is left is not empty
pub unless_some : {X : Type 0} (shape : List X → ShapeView) (xs : List X) (s : ShapeView) → unless_empty shape xs ≡ Some s → (shape xs ≡ s) × (0 < length xs)
unless_some shape [] s h = cc
unless_some shape (x ∷ xs) s h = (cc, omega arith)

module _ (zoom column row : ℕ) (allowed : zoom ≤ MAX_ZOOM) (across : column < 2 ^ zoom) (down : row < 2 ^ zoom) where
  points_shown : (ps : List World) → CountFits 1 ps → All IsOfWorld ps → 0 < length (points_cut zoom column row ps)
      → IsShown (points (points_cut zoom column row ps))
  points_shown ps limits inside some =
      let shown = points_cut zoom column row ps in
      let all = points_of_tile zoom column row ps allowed inside in (
        spelled_points zoom column row shown allowed across down some (omega (arith, length_points_cut zoom column row ps, limits.1)) all,
        fit_all column row (side_low zoom column allowed across) (side_low zoom row allowed down) shown all,
      )

  lists_shown : (closed : Bool) (ls : List (List Pt)) → All (IsDrawable closed column row) ls → IsShown (if closed then rings ls else lines ls)
  lists_shown true ls all = (
    spelled_lines true zoom column row ls allowed across down all,
    fit_lists column row (side_low zoom column allowed across) (side_low zoom row allowed down) true ls all,
  )
  lists_shown false ls all = (
    spelled_lines false zoom column row ls allowed across down all,
    fit_lists column row (side_low zoom column allowed across) (side_low zoom row allowed down) false ls all,
  )

  shape_shown : (g : GeometryData) (s : ShapeView) → GeometryFits g → LiesInWorld g → geometry_cut zoom column row g ≡ Some s → IsShown s
  unfolding geometry_cut
  shape_shown (world_points ps) s limits inside h =
      let is = unless_some points (points_cut zoom column row ps) s h in
      subst IsShown is.0 (points_shown ps limits inside is.1)
  shape_shown (world_lines ls) s limits inside h =
      let shown = lines_cut zoom column row ls in
      subst IsShown (unless_some lines shown s h).0 (lists_shown false shown (lines_drawable zoom column row allowed ls limits.1 inside))
  shape_shown (world_polygons ps) s limits inside h =
      let shown = polygons_cut zoom column row ps in
      subst IsShown (unless_some rings shown s h).0 (lists_shown true shown (polygons_drawable zoom column row allowed ps limits.1 inside))

-- ---- a feature

shape_of : (tags : List TagData) (b : Bool) (o : Option ShapeView) (v : FeatureView) → (if b then option_map (shown_with tags) o else None) ≡ Some v
    → o ≡ Some v.shape
shape_of tags false o v h = cc
shape_of tags true None v h = cc
shape_of tags true (Some s) v h = let same : shown_with tags s ≡ v = cc in ap (λ (f : FeatureView). Some f.shape) same

-- the shape of what is shown is what is left of the geometry
pub shape_left : (f : FeatureData) (zoom column row : ℕ) (v : FeatureView) → feature_cut f zoom column row ≡ Some v
    → geometry_cut zoom column row f.geometry ≡ Some v.shape
unfolding feature_cut
shape_left f zoom column row v h = shape_of f.tags (cut.has_zoom f zoom) (geometry_cut zoom column row f.geometry) v h

pub feature_shown : (f : FeatureData) (zoom column row : ℕ) (v : FeatureView) → zoom ≤ MAX_ZOOM → column < 2 ^ zoom → row < 2 ^ zoom
    → GeometryFits f.geometry → LiesInWorld f.geometry → feature_cut f zoom column row ≡ Some v → CanSpell v.shape × FitsShape v.shape
feature_shown f zoom column row v allowed across down limits inside h =
    shape_shown zoom column row allowed across down f.geometry v.shape limits inside (shape_left f zoom column row v h)
