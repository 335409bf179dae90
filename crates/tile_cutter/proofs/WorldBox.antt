-- What a tile shows of a feature is in its box of the world.
use Rattle.std.proofs.Common.{◌≡◌, ℕ, ◌+◌, ◌-◌, ◌*◌, ◌^◌, ◌<◌, ◌≤◌, List, [], ◌∷◌, None, Some, map, min, refl, sym, ap, subst, ◌∙◌, arith}
use Rattle.std.specs.Prelude.{All}
use Rattle.std.proofs.Math.Nat.{one-le-pow, div-one, div-mul-le_self, lt-div-mul-add, mul-le-mul_right}
use Rattle.std.proofs.lemmas.Grind.{div_ceil_times}
use Rattle.std.proofs.lemmas.List.Elements.{All-head, All-weaker}
use Rattle.feature_model.specs.declared.feature.World.{World}
use Rattle.feature_model.specs.Data.{FeatureData, GeometryData, world_points, world_lines, world_polygons}
use Rattle.feature_model.specs.Types.{IsOfWorld, LiesInWorld}
use Rattle.feature_model.specs.declared.feature.WorldBox.{WorldBox}
use Rattle.tile_cutter.specs.declared.coordinates.TheConstants.{EXTENT, MARGIN, WORLD_ZOOM}
use Rattle.tile_cutter.specs.Cut.{quantised_axis, feature_cut}
use Rattle.tile_cutter.specs.Covered.{all_of, all_points, least_of, greatest_of, first_met, last_met, covered, IsInRange}
use Rattle.tile_cutter.specs.Widened.{bounds_after, box_or_origin, range_of}
use Rattle.tile_cutter.specs.WorldBox.{bounding_box, first_shown, last_shown, tile_box, Meets}
use Rattle.tile_cutter.proofs.Boxes.{least_x_is, least_y_is, greatest_x_is, greatest_y_is, covered_is}
use Rattle.tile_cutter.proofs.Each.{each_all}
use Rattle.tile_cutter.proofs.Outside.{outside}

-- ---- the least and the greatest coordinates are the sides of the box

-- at the zoom of the world nothing is rounded
unrounded : (w : ℕ) → w ≡ quantised_axis WORLD_ZOOM w
unrounded w = sym (div-one w)

module _ (ps : List World) where
  pub left_side : least_of (map (λ p. p.x) ps) ≡ (box_or_origin (bounds_after None ps)).x0
  left_side = (λ i. least_of (map (λ p. unrounded p.x i) ps)) ∙ least_x_is WORLD_ZOOM ps ∙ sym (unrounded (box_or_origin (bounds_after None ps)).x0)

  pub top_side : least_of (map (λ p. p.y) ps) ≡ (box_or_origin (bounds_after None ps)).y0
  top_side = (λ i. least_of (map (λ p. unrounded p.y i) ps)) ∙ least_y_is WORLD_ZOOM ps ∙ sym (unrounded (box_or_origin (bounds_after None ps)).y0)

  pub right_side : greatest_of (map (λ p. p.x) ps) ≡ (box_or_origin (bounds_after None ps)).x1
  right_side =
      (λ i. greatest_of (map (λ p. unrounded p.x i) ps)) ∙ greatest_x_is WORLD_ZOOM ps ∙ sym (unrounded (box_or_origin (bounds_after None ps)).x1)

  pub bottom_side : greatest_of (map (λ p. p.y) ps) ≡ (box_or_origin (bounds_after None ps)).y1
  bottom_side =
      (λ i. greatest_of (map (λ p. unrounded p.y i) ps)) ∙ greatest_y_is WORLD_ZOOM ps ∙ sym (unrounded (box_or_origin (bounds_after None ps)).y1)

pub bounding_box_is : (g : GeometryData) → box_or_origin (bounds_after None (all_points g)) ≡ bounding_box g
unfolding bounding_box
bounding_box_is g =
    let ps = all_points g in
    rw (left_side ps, right_side ps, top_side ps, bottom_side ps) refl

-- ---- points of the world

points_in_world : (g : GeometryData) → LiesInWorld g → All IsOfWorld (all_points g)
points_in_world (world_points ps) all = all
points_in_world (world_lines ls) all = each_all IsOfWorld (λ l. l) ls all
points_in_world (world_polygons ps) all =
    each_all IsOfWorld all_of ps (All-weaker (All (All IsOfWorld)) (λ p. All IsOfWorld (all_of p)) (λ p h. each_all IsOfWorld (λ l. l) p h) ps all)

-- the bounding box of points of the world is of the world
below_first : (m : ℕ) (ns : List ℕ) → least_of (m ∷ ns) ≤ m
below_first m [] = omega arith
below_first m (n ∷ ns) = omega (arith, below_first (min m n) ns)

least_in_world : (along : World → ℕ) (ps : List World) → All (λ p. along p < 2 ^ 32) ps → least_of (map along ps) < 2 ^ 32
least_in_world along [] all = omega arith
least_in_world along (p ∷ ps) all = omega (arith, below_first (along p) (map along ps), All-head (λ q. along q < 2 ^ 32) p ps all)

-- ---- a column, or a row, whose box is met

module _ (zoom at w : ℕ) where
  some_unit : 0 < 2 ^ (WORLD_ZOOM - zoom)
  some_unit = one-le-pow (WORLD_ZOOM - zoom) 2 (omega arith)

  before_last : first_met (quantised_axis zoom w) ≤ at → w < 2 ^ 32 → w ≤ last_shown zoom at
  before_last met within =
      let q = quantised_axis zoom w in
      let ceil = div_ceil_times (q - (EXTENT + MARGIN)) EXTENT (omega arith) in
      let near : q + 1 ≤ EXTENT * at + (EXTENT + MARGIN + 1) = omega (arith, ceil.0, met) in
      let far : w < q * 2 ^ (WORLD_ZOOM - zoom) + 2 ^ (WORLD_ZOOM - zoom) = lt-div-mul-add some_unit in
      let scaled = mul-le-mul_right (2 ^ (WORLD_ZOOM - zoom)) near in
      omega (arith, far, scaled, within)

  behind_first : at ≤ last_met zoom (quantised_axis zoom w) → first_shown zoom at ≤ w
  behind_first met =
      let q = quantised_axis zoom w in
      let near : EXTENT * at - MARGIN ≤ q = omega (arith, met) in
      let scaled = mul-le-mul_right (2 ^ (WORLD_ZOOM - zoom)) near in
      omega (arith, scaled, div-mul-le_self w (2 ^ (WORLD_ZOOM - zoom)))

-- ---- the law

-- the box of a feature meets the box of each tile that it covers
pub meets_covered : (g : GeometryData) (zoom column row : ℕ) → LiesInWorld g → IsInRange (covered g zoom) column row
    → Meets (bounding_box g) (tile_box zoom column row)
unfolding covered bounding_box tile_box
meets_covered g zoom column row lies is =
    let ps = all_points g in
    let all = points_in_world g lies in
    let round = quantised_axis zoom in
    let left_is : least_of (map (λ p. round p.x) ps) ≡ round (least_of (map (λ p. p.x) ps)) =
    least_x_is zoom ps ∙ ap round (sym (left_side ps)) in
    let right_is : greatest_of (map (λ p. round p.x) ps) ≡ round (greatest_of (map (λ p. p.x) ps)) =
    greatest_x_is zoom ps ∙ ap round (sym (right_side ps)) in
    let top_is : least_of (map (λ p. round p.y) ps) ≡ round (least_of (map (λ p. p.y) ps)) =
    least_y_is zoom ps ∙ ap round (sym (top_side ps)) in
    let bottom_is : greatest_of (map (λ p. round p.y) ps) ≡ round (greatest_of (map (λ p. p.y) ps)) =
    greatest_y_is zoom ps ∙ ap round (sym (bottom_side ps)) in
    record {
      left = before_last zoom column _ (subst (λ n. first_met n ≤ column) left_is is.left)
          (least_in_world (λ p. p.x) ps (All-weaker IsOfWorld (λ p. p.x < 2 ^ 32) (λ p h. h.0) ps all));
      right = behind_first zoom column _ (subst (λ n. column ≤ last_met zoom n) right_is is.right);
      top = before_last zoom row _ (subst (λ n. first_met n ≤ row) top_is is.top)
          (least_in_world (λ p. p.y) ps (All-weaker IsOfWorld (λ p. p.y < 2 ^ 32) (λ p h. h.1) ps all));
      bottom = behind_first zoom row _ (subst (λ n. row ≤ last_met zoom n) bottom_is is.bottom);
    }

-- a tile shows nothing of a feature whose box doesn't meet its own
pub apart : (f : FeatureData) (zoom column row : ℕ) (box : WorldBox) → box ≡ tile_box zoom column row → column < 2 ^ zoom → row < 2 ^ zoom
    → LiesInWorld f.geometry → ¬ Meets (bounding_box f.geometry) box → feature_cut f zoom column row ≡ None
apart f zoom column row box is across down lies none =
    outside f zoom column row (covered f.geometry zoom) refl across down
    (λ covers. none (subst (λ b. Meets (bounding_box f.geometry) b) (sym is) (meets_covered f.geometry zoom column row lies covers)))

-- ---- coordinates in the code

-- the most of 64 bits is beyond the world
pub capped : (n scaled result : ℕ) → scaled ≡ min n (2 ^ 64 - 1) → result ≡ min (2 ^ 32 - 1) scaled → result ≡ min (2 ^ 32 - 1) n
capped n scaled result scaled_is is = omega arith

pub capped_before : (n scaled last result : ℕ) → scaled ≡ min n (2 ^ 64 - 1) → last ≡ scaled - 1 → result ≡ min (2 ^ 32 - 1) last
    → result ≡ min (2 ^ 32 - 1) (n - 1)
capped_before n scaled last result scaled_is last_is is = omega arith

pub tile_box_is : (zoom column row left top right bottom : ℕ) → left ≡ first_shown zoom column → top ≡ first_shown zoom row
    → right ≡ last_shown zoom column → bottom ≡ last_shown zoom row
    → record { x0 = left; x1 = right; y0 = top; y1 = bottom } ≡ tile_box zoom column row
unfolding tile_box
tile_box_is zoom column row left top right bottom left_is top_is right_is bottom_is =
    λ i. record { x0 = left_is i; x1 = right_is i; y0 = top_is i; y1 = bottom_is i }

-- the tiles that the bounding box of a geometry meets are those that it covers
pub box_covered : (g : GeometryData) (zoom : ℕ) → range_of (Some (bounding_box g)) zoom ≡ covered g zoom
box_covered g zoom = ap (λ b. range_of (Some b) zoom) (sym (bounding_box_is g)) ∙ covered_is g zoom
