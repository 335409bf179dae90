-- The bounding box of a ring in a tile is that of its points of the world: points left out are there a second time.
use Rattle.std.proofs.Common.{◌≡◌, ℕ, ℤ, ◌+◌, ◌-◌, ◌*◌, ◌^◌, ◌<◌, ◌≤◌, suc, pos, ◌-ℤ◌, min, max, Bool, true, false, cond, List, [], ◌∷◌, Option, Some, None}
use Rattle.std.proofs.Common.{map, take, length, refl, sym, ap, subst, ◌∙◌, ◌⊎◌, inl, inr, ⊎_elim, arith}
use Rattle.std.specs.Prelude.{fold, int_le}
use Rattle.std.specs.Int.{int_min, int_max}
use Rattle.std.specs.Bool.{Decides}
use Rattle.std.proofs.lemmas.Int.{ints, clamps}
use Rattle.std.proofs.lemmas.Grind.{div_ceil_times}
use Rattle.std.proofs.lemmas.Bool.Decides.{Decides-and, Decides-like, same_from_decides}
use Rattle.feature_model.specs.declared.feature.World.{World}
use Rattle.geometry_commands.specs.declared.point.Pt.{Pt}
use Rattle.geometry_commands.specs.Shapes.{last_of}
use Rattle.tile_cutter.specs.declared.coordinates.TheConstants.{EXTENT, MARGIN}
use Rattle.feature_model.specs.declared.feature.WorldBox.{WorldBox}
use Rattle.tile_cutter.specs.declared.reach.TileRange.{TileRange}
use Rattle.tile_cutter.specs.Cut.{quantised_axis, tile_points, tile_ring, box_start, box_end, least_corner, greatest_corner}
use Rattle.tile_cutter.specs.Cut.{reaches_box, meets_box}
use Rattle.tile_cutter.specs.Covered.{first_met, last_met, IsInRange}
use Rattle.tile_cutter.specs.Widened.{widened, bounds_after, box_or_origin, range_of}
use Rattle.tile_cutter.specs.Passes.{is_same_position, returns_to_start}
use Rattle.tile_cutter.proofs.Boxes.{quantised_both}
use Rattle.tile_cutter.proofs.Passes.{left_after, same_place, stands_at, tile_points_are}
use Rattle.tile_cutter.proofs.Ways.{ring_opened}

-- ---- a corner of points: one that is there already changes nothing

record IsCorner (f : Pt → Pt → Pt) : Type 0 where
  again : (a p : Pt) → f (f a p) p ≡ f a p
  keeps : (a b p : Pt) → f a b ≡ a → f (f a p) b ≡ f a p
  itself : (p : Pt) → f p p ≡ p

-- where that is so of the coordinates
corners_by : (side : ℤ → ℤ → ℤ) → ((a p : ℤ) → side (side a p) p ≡ side a p) → ((a b p : ℤ) → side a b ≡ a → side (side a p) b ≡ side a p)
    → ((p : ℤ) → side p p ≡ p) → IsCorner (λ p q. record { x = side p.x q.x; y = side p.y q.y })
corners_by side again keeps itself = record {
  again = λ a p. λ i. record { x = again a.x p.x i; y = again a.y p.y i };
  keeps = λ a b p h. λ i. record { x = keeps a.x b.x p.x (ap (λ q. q.x) h) i; y = keeps a.y b.y p.y (ap (λ q. q.y) h) i };
  itself = λ p. λ i. record { x = itself p.x i; y = itself p.y i };
}

least_corners : IsCorner least_corner
least_corners =
    corners_by int_min (λ a p. omega (arith, ints, clamps)) (λ a b p h. omega (arith, ints, clamps, h)) (λ p. omega (arith, ints, clamps))

greatest_corners : IsCorner greatest_corner
greatest_corners =
    corners_by int_max (λ a p. omega (arith, ints, clamps)) (λ a b p h. omega (arith, ints, clamps, h)) (λ p. omega (arith, ints, clamps))

module _ (f : Pt → Pt → Pt) (corner : IsCorner f) where
  -- without the points that equal the one before them
  fold_left : (a before : Pt) (ps : List Pt) → f a before ≡ a → fold f a (left_after (Some before) ps) ≡ fold f a ps
  unfolding left_after
  fold_left a before [] there = refl
  fold_left a before (p ∷ ps) there =
      go (is_same_position p before) refl (fold_left a p ps) (fold_left (f a p) p ps (corner.again a p))
    where
      go : (b : Bool) → is_same_position p before ≡ b → (f a p ≡ a → fold f a (left_after (Some p) ps) ≡ fold f a ps)
          → fold f (f a p) (left_after (Some p) ps) ≡ fold f (f a p) ps
          → fold f a (cond b (left_after (Some p) ps) (p ∷ left_after (Some p) ps)) ≡ fold f (f a p) ps
      go true e without behind =
          let p_there : f a p ≡ a = subst (λ q. f a q ≡ a) (sym (same_place p before e)) there in
          without p_there ∙ ap (λ c. fold f c ps) (sym p_there)
      go false e without behind = behind

  -- without a last one that is there already
  fold_but_last : (a p : Pt) (ps : List Pt) → f a (last_of p ps) ≡ a → fold f a (take (length ps) (p ∷ ps)) ≡ fold f a (p ∷ ps)
  fold_but_last a p [] there = sym there
  fold_but_last a p (q ∷ qs) there = fold_but_last (f a p) q qs (corner.keeps a (last_of q qs) p there)

-- ---- a ring without its last point

meets_but_last : (p : Pt) (ps : List Pt) → last_of p ps ≡ p → (take (length ps) (p ∷ ps) ≡ []) ⊎ (meets_box (take (length ps) (p ∷ ps)) ≡ meets_box (p ∷ ps))
meets_but_last p [] same = inl refl
meets_but_last p (q ∷ qs) same = inr (rw (
  fold_but_last least_corner least_corners p q qs (ap (least_corner p) same ∙ least_corners.itself p),
  fold_but_last greatest_corner greatest_corners p q qs (ap (greatest_corner p) same ∙ greatest_corners.itself p),
) refl)

meets_opened : (ps : List Pt) (b : Bool) → returns_to_start ps ≡ b
    → (cond b (take (length ps - 1) ps) ps ≡ []) ⊎ (meets_box (cond b (take (length ps - 1) ps) ps) ≡ meets_box ps)
meets_opened ps false e = inr refl
meets_opened [] true e = inl refl
meets_opened (p ∷ ps) true e =
    let one : suc (length ps) - 1 ≡ length ps = omega arith in
    rw one (meets_but_last p ps (sym (same_place p (last_of p ps) e)))

-- ---- the corners of points of the world

abbrev upper_left : WorldBox → World
upper_left b = record { x = b.x0; y = b.y0 }

abbrev lower_right : WorldBox → World
lower_right b = record { x = b.x1; y = b.y1 }

module _ (zoom column row : ℕ) where
  least_stands : (p q : World)
      → least_corner (stands_at zoom column row p) (stands_at zoom column row q) ≡ stands_at zoom column row (record { x = min p.x q.x; y = min p.y q.y })
  least_stands p q =
      let x_both = (quantised_both zoom p.x q.x).0 in
      let y_both = (quantised_both zoom p.y q.y).0 in
      let x : int_min (pos (quantised_axis zoom p.x) -ℤ pos (EXTENT * column)) (pos (quantised_axis zoom q.x) -ℤ pos (EXTENT * column))
      ≡ pos (quantised_axis zoom (min p.x q.x)) -ℤ pos (EXTENT * column) = omega (arith, ints, clamps, x_both) in
      let y : int_min (pos (quantised_axis zoom p.y) -ℤ pos (EXTENT * row)) (pos (quantised_axis zoom q.y) -ℤ pos (EXTENT * row))
      ≡ pos (quantised_axis zoom (min p.y q.y)) -ℤ pos (EXTENT * row) = omega (arith, ints, clamps, y_both) in
      λ i. record { x = x i; y = y i }

  greatest_stands : (p q : World)
      → greatest_corner (stands_at zoom column row p) (stands_at zoom column row q) ≡ stands_at zoom column row (record { x = max p.x q.x; y = max p.y q.y })
  greatest_stands p q =
      let x_both = (quantised_both zoom p.x q.x).1 in
      let y_both = (quantised_both zoom p.y q.y).1 in
      let x : int_max (pos (quantised_axis zoom p.x) -ℤ pos (EXTENT * column)) (pos (quantised_axis zoom q.x) -ℤ pos (EXTENT * column))
      ≡ pos (quantised_axis zoom (max p.x q.x)) -ℤ pos (EXTENT * column) = omega (arith, ints, clamps, x_both) in
      let y : int_max (pos (quantised_axis zoom p.y) -ℤ pos (EXTENT * row)) (pos (quantised_axis zoom q.y) -ℤ pos (EXTENT * row))
      ≡ pos (quantised_axis zoom (max p.y q.y)) -ℤ pos (EXTENT * row) = omega (arith, ints, clamps, y_both) in
      λ i. record { x = x i; y = y i }

  fold_least : (c : WorldBox) (ps : List World)
      → fold least_corner (stands_at zoom column row (upper_left c)) (map (stands_at zoom column row) ps)
      ≡ stands_at zoom column row (upper_left (box_or_origin (bounds_after (Some c) ps)))
  fold_least c [] = refl
  fold_least c (p ∷ ps) =
      ap (λ a. fold least_corner a (map (stands_at zoom column row) ps)) (least_stands (upper_left c) p) ∙ fold_least (widened (Some c) p) ps

  fold_greatest : (c : WorldBox) (ps : List World)
      → fold greatest_corner (stands_at zoom column row (lower_right c)) (map (stands_at zoom column row) ps)
      ≡ stands_at zoom column row (lower_right (box_or_origin (bounds_after (Some c) ps)))
  fold_greatest c [] = refl
  fold_greatest c (p ∷ ps) =
      ap (λ a. fold greatest_corner a (map (stands_at zoom column row) ps)) (greatest_stands (lower_right c) p) ∙ fold_greatest (widened (Some c) p) ps

  -- whether a box of the world reaches that of the tile
  abbrev pub reach_box : Option WorldBox → Bool
  reach_box c = reaches_box (stands_at zoom column row (upper_left (box_or_origin c))) (stands_at zoom column row (lower_right (box_or_origin c)))

  points_reach : (p : World) (ps : List World) → meets_box (tile_points zoom column row (p ∷ ps)) ≡ reach_box (bounds_after None (p ∷ ps))
  unfolding left_after
  points_reach p ps =
      let here = stands_at zoom column row p in
      let others = map (stands_at zoom column row) ps in
      let least = fold_left least_corner least_corners here here others (least_corners.itself here) ∙ fold_least (widened None p) ps in
      let greatest = fold_left greatest_corner greatest_corners here here others (greatest_corners.itself here) ∙ fold_greatest (widened None p) ps in
      sym (ap meets_box (tile_points_are zoom column row (p ∷ ps)))
      ∙ ap (λ (q : Pt). reaches_box q (fold greatest_corner here (left_after (Some here) others))) least
      ∙ ap (λ (q : Pt). reaches_box (stands_at zoom column row (upper_left (box_or_origin (bounds_after None (p ∷ ps))))) q) greatest

  -- the ring has no points in the tile, or its box is that of its points
  pub ring_reach : (ps : List World) → (tile_ring zoom column row ps ≡ []) ⊎ (meets_box (tile_ring zoom column row ps) ≡ reach_box (bounds_after None ps))
  ring_reach [] = inl refl
  ring_reach (p ∷ ps) =
      let tile = tile_points zoom column row (p ∷ ps) in
      let b = returns_to_start tile in
      let opened = cond b (take (length tile - 1) tile) tile in
      let is = ring_opened zoom column row (p ∷ ps) tile opened (length tile) b refl refl refl refl in
      subst (λ (r : List Pt). (r ≡ []) ⊎ (meets_box r ≡ reach_box (bounds_after None (p ∷ ps)))) is
      (⊎_elim (λ none. inl none) (λ same. inr (same ∙ points_reach p ps)) (meets_opened tile b refl))

-- ---- a column, or a row, of a range

begins_before : (q at : ℕ) → Decides (int_le (pos q -ℤ pos (EXTENT * at)) box_end) (first_met q ≤ at)
begins_before q at =
    let ceil = div_ceil_times (q - (EXTENT + MARGIN)) EXTENT (omega arith) in
    (λ e. grind (arith, ints, ceil), λ le. grind (arith, ints, ceil))

ends_behind : (zoom q at : ℕ) → at < 2 ^ zoom → Decides (int_le box_start (pos q -ℤ pos (EXTENT * at))) (at ≤ last_met zoom q)
ends_behind zoom q at within = (λ e. grind (arith, ints), λ le. grind (arith, ints))

-- a tile is in the range of a box where the box reaches its own
pub reach_range : (zoom column row : ℕ) (c : Option WorldBox) (b : Bool) → column < 2 ^ zoom → row < 2 ^ zoom
    → Decides b (IsInRange (range_of c zoom) column row) → b ≡ reach_box zoom column row c
reach_range zoom column row c b across down decides =
    let left = begins_before (quantised_axis zoom (box_or_origin c).x0) column in
    let right = ends_behind zoom (quantised_axis zoom (box_or_origin c).x1) column across in
    let top = begins_before (quantised_axis zoom (box_or_origin c).y0) row in
    let bottom = ends_behind zoom (quantised_axis zoom (box_or_origin c).y1) row down in
    let all = Decides-and _ _ (Decides-and _ _ (Decides-and _ _ left right) top) bottom in
    same_from_decides b (reach_box zoom column row c) decides
    (Decides-like (reach_box zoom column row c)
    (λ h. record { left = h.0.0.0; right = h.0.0.1; top = h.0.1; bottom = h.1 })
    (λ (is : IsInRange (range_of c zoom) column row). (((is.left, is.right), is.top), is.bottom)) all)

pub ring_says : (zoom column row : ℕ) (ps : List World) (c : Option WorldBox) (range : TileRange) (b : Bool) → column < 2 ^ zoom → row < 2 ^ zoom
    → c ≡ bounds_after None ps → range ≡ range_of c zoom → Decides b (IsInRange range column row)
    → (tile_ring zoom column row ps ≡ []) ⊎ (b ≡ meets_box (tile_ring zoom column row ps))
ring_says zoom column row ps c range b across down c_is range_is decides =
    let by_bounds = subst (λ r. Decides b (IsInRange r column row)) range_is decides in
    let says = reach_range zoom column row c b across down by_bounds ∙ ap (reach_box zoom column row) c_is in
    ⊎_elim (λ none. inl none) (λ same. inr (says ∙ sym same)) (ring_reach zoom column row ps)
