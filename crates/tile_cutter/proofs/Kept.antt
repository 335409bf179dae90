-- What all points of a list keep on their way to a tile.
use Rattle.std.proofs.Common.{◌≡◌, ℕ, ◌-◌, ◌*◌, ◌/◌, ◌^◌, ◌<◌, ◌≤◌, suc, pos, ◌-ℤ◌, Bool, true, false, cond, List, [], ◌∷◌, Option, Some, None, map, take}
use Rattle.std.proofs.Common.{length, sym, ap, subst, arith}
use Rattle.std.specs.Prelude.{All}
use Rattle.std.proofs.Math.Nat.{div-mul-le_self, mul-le-mul_left}
use Rattle.std.proofs.Math.Pow.{pow_mono}
use Rattle.std.proofs.lemmas.Int.{ints}
use Rattle.std.proofs.lemmas.List.{length-map, length-take}
use Rattle.std.proofs.lemmas.List.Elements.{All-cons, All-head, All-tail, All-map, All-take, All-weaker}
use Rattle.feature_model.specs.declared.feature.World.{World}
use Rattle.geometry_commands.specs.declared.point.Pt.{Pt}
use Rattle.tile_cutter.specs.Cut.{quantised_points, is_closed, tile_points, tile_ring}
use Rattle.tile_cutter.specs.Passes.{repeats}
use Rattle.feature_model.specs.Types.{IsOfWorld}
use Rattle.feature_model.specs.declared.limits.TheConstants.{MAX_ZOOM}
use Rattle.tile_cutter.specs.declared.coordinates.TheConstants.{EXTENT, WORLD_ZOOM}
use Rattle.tile_cutter.specs.Range.{IsSmall, IsOfSide, IsOfTile}
use Rattle.tile_cutter.proofs.Passes.{left_after, stands_at, tile_points_are}
use Rattle.tile_cutter.proofs.Ways.{opened_positions}
use Rattle.tile_cutter.proofs.Zooms.{zoom_low}

all_left : (P : Pt → Type 0) (before : Option Pt) (ps : List Pt) → All P ps → All P (left_after before ps)
unfolding left_after
all_left P before [] all = all
all_left P before (p ∷ ps) all = go (repeats before p) (all_left P (Some p) ps (All-tail P p ps all))
  where
    go : (b : Bool) → All P (left_after (Some p) ps) → All P (cond b (left_after (Some p) ps) (p ∷ left_after (Some p) ps))
    go true rest = rest
    go false rest = All-cons P p (left_after (Some p) ps) (All-head P p ps all) rest

length_left : (before : Option Pt) (ps : List Pt) → length (left_after before ps) ≤ length ps
unfolding left_after
length_left before [] = omega arith
length_left before (p ∷ ps) = go (repeats before p) (length_left (Some p) ps)
  where
    go : (b : Bool) → length (left_after (Some p) ps) ≤ length ps → length (cond b (left_after (Some p) ps) (p ∷ left_after (Some p) ps)) ≤ suc (length ps)
    go true less = omega arith
    go false less = omega arith

-- ---- the points of a tile

pub points_all : (P : Pt → Type 0) (zoom column row : ℕ) (ps : List World) → All (λ p. P (stands_at zoom column row p)) ps
    → All P (tile_points zoom column row ps)
points_all P zoom column row ps all =
    subst (All P) (tile_points_are zoom column row ps) (all_left P None (map (stands_at zoom column row) ps) (All-map P (stands_at zoom column row) ps all))

pub points_keep : (P : Pt → Type 0) (zoom column row : ℕ) (ps : List World) → ((p : World) → IsOfWorld p → P (stands_at zoom column row p))
    → All IsOfWorld ps → All P (tile_points zoom column row ps)
points_keep P zoom column row ps each all = points_all P zoom column row ps (All-weaker IsOfWorld (λ p. P (stands_at zoom column row p)) each ps all)

pub length_points : (zoom column row : ℕ) (ps : List World) → length (tile_points zoom column row ps) ≤ length ps
length_points zoom column row ps =
    let less = length_left None (map (stands_at zoom column row) ps) in
    let same = ap length (tile_points_are zoom column row ps) in
    omega (arith, length-map ps (stands_at zoom column row))

-- a ring is the points of a tile, or these without the last
opened : (zoom column row : ℕ) (ps : List World)
    → (b : Bool)
    × (tile_ring zoom column row ps ≡ cond b (take (length (quantised_points zoom ps) - 1) (tile_points zoom column row ps)) (tile_points zoom column row ps))
opened zoom column row ps =
    let qs = quantised_points zoom ps in
    (is_closed qs, sym (opened_positions column row qs (is_closed qs)))

pub ring_all : (P : Pt → Type 0) (zoom column row : ℕ) (ps : List World) → All (λ p. P (stands_at zoom column row p)) ps → All P (tile_ring zoom column row ps)
ring_all P zoom column row ps all =
    let is = opened zoom column row ps in
    subst (All P) (sym is.1) (go is.0 (points_all P zoom column row ps all))
  where
    go : (b : Bool) → All P (tile_points zoom column row ps)
        → All P (cond b (take (length (quantised_points zoom ps) - 1) (tile_points zoom column row ps)) (tile_points zoom column row ps))
    go true kept = All-take P (length (quantised_points zoom ps) - 1) (tile_points zoom column row ps) kept
    go false kept = kept

pub ring_keeps : (P : Pt → Type 0) (zoom column row : ℕ) (ps : List World) → ((p : World) → IsOfWorld p → P (stands_at zoom column row p))
    → All IsOfWorld ps → All P (tile_ring zoom column row ps)
ring_keeps P zoom column row ps each all = ring_all P zoom column row ps (All-weaker IsOfWorld (λ p. P (stands_at zoom column row p)) each ps all)

pub length_ring : (zoom column row : ℕ) (ps : List World) → length (tile_ring zoom column row ps) ≤ length ps
length_ring zoom column row ps =
    let is = opened zoom column row ps in
    subst (λ (r : List Pt). length r ≤ length ps) (sym is.1) (go is.0 (length_points zoom column row ps))
  where
    go : (b : Bool) → length (tile_points zoom column row ps) ≤ length ps
        → length (cond b (take (length (quantised_points zoom ps) - 1) (tile_points zoom column row ps)) (tile_points zoom column row ps)) ≤ length ps
    go true less = omega (arith, length-take (length (quantised_points zoom ps) - 1) (tile_points zoom column row ps))
    go false less = less

-- ---- the coordinates of a point of the world

-- a coordinate of the world, quantised
pub quantised_below : (zoom w : ℕ) → zoom ≤ MAX_ZOOM → w < 2 ^ 32 → w / 2 ^ (WORLD_ZOOM - zoom) < 2 ^ 31
quantised_below zoom w allowed fits =
    let two : 2 ^ 1 ≤ 2 ^ (WORLD_ZOOM - zoom) = pow_mono {i = 1} {j = WORLD_ZOOM - zoom} (omega (arith, zoom_low zoom allowed)) in
    let less = mul-le-mul_left (w / 2 ^ (WORLD_ZOOM - zoom)) two in
    omega (arith, less, div-mul-le_self w (2 ^ (WORLD_ZOOM - zoom)))

side_position : (zoom at w : ℕ) → zoom ≤ MAX_ZOOM → w < 2 ^ 32 → IsOfSide at (pos (w / 2 ^ (WORLD_ZOOM - zoom)) -ℤ pos (EXTENT * at))
side_position zoom at w allowed fits =
    let below = quantised_below zoom w allowed fits in
    record { low = omega (arith, ints); high = omega (arith, ints) }

pub stands_in_tile : (zoom column row : ℕ) → zoom ≤ MAX_ZOOM → (p : World) → IsOfWorld p → IsOfTile column row (stands_at zoom column row p)
stands_in_tile zoom column row allowed p inside =
    record { across = side_position zoom column p.x allowed inside.0; down = side_position zoom row p.y allowed inside.1 }

-- a point of a tile is near
pub small_of_tile : (column row : ℕ) → column < 2 ^ 32 → row < 2 ^ 32 → (p : Pt) → IsOfTile column row p → IsSmall p
small_of_tile column row across down p is = record {
  across = record { low = omega (arith, ints, is.across.low, is.across.high); high = omega (arith, ints, is.across.low, is.across.high) };
  down = record { low = omega (arith, ints, is.down.low, is.down.high); high = omega (arith, ints, is.down.low, is.down.high) };
}
