-- Twice the area of a ring: how large its parts are, and how they add up.
use Rattle.std.proofs.Common.{Bool, true, false, cond, not, ◌&&◌, Some, take, ◌-◌, nat_le, suc}
use Rattle.std.proofs.Common.{◌≡◌, ℕ, ℤ, List, [], ◌∷◌, ◌++◌, map, length, refl, pos, negsuc, neg_ℤ, unsigned_abs, ◌*◌, ◌^◌, ◌<◌}
use Rattle.std.proofs.Common.{◌≤◌, ◌≤ℤ◌, ◌+ℤ◌, ◌*ℤ◌, ◌-ℤ◌, FitsSigned, to_z, of_z, w64, sym, ap, ◌∙◌, arith}
use Rattle.std.proofs.Math.Nat.{mul-le-mul}
use Rattle.std.proofs.lemmas.Int.{ints, to_z-of_z, unsigned_abs-mul, fits_signed_from_abs}
use Rattle.std.specs.Prelude.{fold}
use Rattle.geometry_commands.specs.declared.point.Pt.{Pt}
use Rattle.std.specs.Ordering.{int_eq}
use Rattle.std.proofs.lemmas.Bool.Decides.{nat_tests, Decides-int_eq}
use Rattle.feature_model.specs.declared.feature.World.{World}
use Rattle.geometry_commands.specs.Shapes.{last_of}
use Rattle.tile_cutter.specs.Cut.{segments, cross, twice_area, is_ring, tile_points, tile_ring}
use Rattle.tile_cutter.specs.Passes.{is_same_position, returns_to_start}
use Rattle.tile_cutter.proofs.Passes.{left_after, same_place, stands_at, stands_item, stands_over, tile_points_are}
use Rattle.tile_cutter.proofs.Ways.{ring_opened}
use Rattle.tile_cutter.specs.Range.{IsWithin}
use mir.Syntax.{w128}

abs_below : (m : ℕ) (u : ℤ) → neg_ℤ (pos m) ≤ℤ u → u ≤ℤ pos m → unsigned_abs u ≤ m
abs_below m (pos n) low high = omega (arith, ints)
abs_below m (negsuc n) low high = omega (arith, ints)

within_abs : (m : ℕ) (u : ℤ) → unsigned_abs u ≤ m → (neg_ℤ (pos m) ≤ℤ u) × (u ≤ℤ pos m)
within_abs m (pos n) below = (omega (arith, ints), omega (arith, ints))
within_abs m (negsuc n) below = (omega (arith, ints), omega (arith, ints))

pub within-mul : (a b : ℤ) → IsWithin 45 a → IsWithin 45 b → IsWithin 90 (a *ℤ b)
within-mul a b a_within b_within =
    let a_below = abs_below (2 ^ 45) a a_within.low a_within.high in
    let b_below = abs_below (2 ^ 45) b b_within.low b_within.high in
    let below : unsigned_abs (a *ℤ b) ≤ 2 ^ 90 = rw unsigned_abs-mul (mul-le-mul a_below b_below) in
    let both = within_abs (2 ^ 90) (a *ℤ b) below in
    record { low = both.0; high = both.1 }

pub within-sub : (a b : ℤ) → IsWithin 90 a → IsWithin 90 b → IsWithin 91 (a -ℤ b)
within-sub a b a_within b_within = record { low = omega (arith, ints); high = omega (arith, ints) }

-- what is this small fits an `i128`
pub fits_128 : (u : ℤ) → neg_ℤ (pos (2 ^ 120)) ≤ℤ u → u ≤ℤ pos (2 ^ 120) → FitsSigned w128 u
fits_128 u low high =
    let below = abs_below (2 ^ 120) u low high in
    fits_signed_from_abs w128 u (omega arith)

pub is_128 : (u : ℤ) → neg_ℤ (pos (2 ^ 120)) ≤ℤ u → u ≤ℤ pos (2 ^ 120) → to_z w128 (of_z w128 u) ≡ u
is_128 u low high = to_z-of_z w128 u (fits_128 u low high)

fits_64 : (u : ℤ) → IsWithin 45 u → FitsSigned w64 u
fits_64 u within =
    let below = abs_below (2 ^ 45) u within.low within.high in
    fits_signed_from_abs w64 u (omega arith)

pub is_64 : (u : ℤ) → IsWithin 45 u → to_z w64 (of_z w64 u) ≡ u
is_64 u within = to_z-of_z w64 u (fits_64 u within)

-- a coordinate, widened
pub wide_is : (u v : ℤ) → v ≡ to_z w64 (of_z w64 u) → IsWithin 45 u → to_z w128 (of_z w128 v) ≡ u
wide_is u v e within =
    let same : v ≡ u = e ∙ is_64 u within in
    rw same (is_128 u (omega (arith, ints)) (omega (arith, ints)))

pub product_is : (a b u v : ℤ) → u ≡ to_z w64 (of_z w64 a) → v ≡ to_z w64 (of_z w64 b) → IsWithin 45 a → IsWithin 45 b
    → to_z w128 (of_z w128 (to_z w128 (of_z w128 u) *ℤ to_z w128 (of_z w128 v))) ≡ a *ℤ b
product_is a b u v u_is v_is a_within b_within =
    let within = within-mul a b a_within b_within in
    rw (wide_is a u u_is a_within, wide_is b v v_is b_within) (is_128 (a *ℤ b) (omega (arith, ints)) (omega (arith, ints)))

-- a difference of what is small
pub fits_sub : (u v : ℤ) → IsWithin 90 u → IsWithin 90 v → FitsSigned w128 (to_z w128 (of_z w128 u) -ℤ to_z w128 (of_z w128 v))
fits_sub u v u_within v_within =
    let within = within-sub u v u_within v_within in
    let u_is = is_128 u (omega (arith, ints)) (omega (arith, ints)) in
    let v_is = is_128 v (omega (arith, ints)) (omega (arith, ints)) in
    rw (u_is, v_is) (fits_128 (u -ℤ v) (omega (arith, ints)) (omega (arith, ints)))

pub sub_is : (u v : ℤ) → IsWithin 90 u → IsWithin 90 v → to_z w128 (of_z w128 (to_z w128 (of_z w128 u) -ℤ to_z w128 (of_z w128 v))) ≡ u -ℤ v
sub_is u v u_within v_within =
    let within = within-sub u v u_within v_within in
    let u_is = is_128 u (omega (arith, ints)) (omega (arith, ints)) in
    let v_is = is_128 v (omega (arith, ints)) (omega (arith, ints)) in
    rw (u_is, v_is) (is_128 (u -ℤ v) (omega (arith, ints)) (omega (arith, ints)))

-- ---- the area of points that are left out

-- twice the area from a point along others to the first one, added to a sum
abbrev pub area_along : ℤ → Pt → List Pt → Pt → ℤ
area_along s from ps first = fold ◌+ℤ◌ s (map cross (segments (from ∷ (ps ++ first ∷ []))))

-- there and back again
no_turn : (p : Pt) (s : ℤ) → s +ℤ cross (p, p) ≡ s
no_turn p s = omega (arith, ints)

-- a point that equals the one before it adds nothing
area_left : (ps : List Pt) (s : ℤ) (from first : Pt) → area_along s from (left_after (Some from) ps) first ≡ area_along s from ps first
unfolding left_after
area_left [] s from first = refl
area_left (p ∷ ps) s from first =
    go (is_same_position p from) refl (area_left ps s p first) (area_left ps (s +ℤ cross (from, p)) p first)
  where
    go : (b : Bool) → is_same_position p from ≡ b → area_along s p (left_after (Some p) ps) first ≡ area_along s p ps first
        → area_along (s +ℤ cross (from, p)) p (left_after (Some p) ps) first ≡ area_along (s +ℤ cross (from, p)) p ps first
        → area_along s from (cond b (left_after (Some p) ps) (p ∷ left_after (Some p) ps)) first ≡ area_along (s +ℤ cross (from, p)) p ps first
    go true e without behind =
        let same = same_place p from e in
        ap (λ (q : Pt). area_along s q (left_after (Some p) ps) first) (sym same)
        ∙ without
        ∙ ap (λ (t : ℤ). area_along t p ps first) (sym (no_turn p s) ∙ ap (λ (q : Pt). s +ℤ cross (q, p)) same)
    go false e without behind = behind

-- a last point that is the first one again
area_but_last : (s : ℤ) (from q : Pt) (qs : List Pt) (first : Pt) → last_of q qs ≡ first
    → area_along s from (take (length qs) (q ∷ qs)) first ≡ area_along s from (q ∷ qs) first
area_but_last s from q [] first same = rw same (sym (no_turn first (s +ℤ cross (from, first))))
area_but_last s from q (r ∷ rs) first same = area_but_last (s +ℤ cross (from, q)) q r rs first same

-- the area of a ring without it
area_opened : (ps : List Pt) (b : Bool) → returns_to_start ps ≡ b → twice_area (cond b (take (length ps - 1) ps) ps) ≡ twice_area ps
unfolding twice_area
area_opened ps false e = refl
area_opened [] true e = refl
area_opened (p ∷ []) true e = sym (no_turn p (pos 0))
area_opened (p ∷ q ∷ qs) true e =
    let one : suc (suc (length qs)) - 1 ≡ suc (length qs) = omega arith in
    rw one (area_but_last (pos 0) p q qs p (sym (same_place p (last_of q qs) e)))

-- the area of a ring in a tile, along all its points
pub area_begins : (zoom column row : ℕ) (points : List World) (first : World) (others : List World) (start : Pt) → points ≡ first ∷ others
    → start ≡ stands_at zoom column row first
    → area_along (pos 0) start (map (stands_at zoom column row) others) start ≡ twice_area (tile_ring zoom column row points)
unfolding twice_area left_after
area_begins zoom column row points first others start points_is start_is =
    let tile = tile_points zoom column row (first ∷ others) in
    let b = returns_to_start tile in
    let opened = cond b (take (length tile - 1) tile) tile in
    let here = stands_at zoom column row first in
    let whole : area_along (pos 0) here (map (stands_at zoom column row) others) here ≡ twice_area (tile_ring zoom column row (first ∷ others)) =
    sym (area_left (map (stands_at zoom column row) others) (pos 0) here here)
    ∙ ap twice_area (tile_points_are zoom column row (first ∷ others))
    ∙ sym (area_opened tile b refl)
    ∙ ap twice_area (ring_opened zoom column row (first ∷ others) tile opened (length tile) b refl refl refl refl) in
    rw (points_is, start_is) whole

pub area_of_none : (zoom column row : ℕ) (points : List World) → length points ≡ 0 → pos 0 ≡ twice_area (tile_ring zoom column row points)
unfolding twice_area
area_of_none zoom column row [] e = refl
area_of_none zoom column row (p ∷ ps) e = absurd (omega arith)

-- fewer than three points have none
pub area_of_two : (ps : List Pt) → length ps < 3 → twice_area ps ≡ pos 0
unfolding twice_area
area_of_two [] few = refl
area_of_two (p ∷ []) few = no_turn p (pos 0)
area_of_two (p ∷ q ∷ []) few = omega (arith, ints)
area_of_two (p ∷ q ∷ r ∷ rs) few = absurd (omega arith)

-- so a ring is what has an area
pub ring_by_area : (ps : List Pt) → is_ring ps ≡ not (int_eq (twice_area ps) (pos 0))
ring_by_area ps = go (nat_le 3 (length ps)) refl
  where
    go : (b : Bool) → nat_le 3 (length ps) ≡ b → (b && not (int_eq (twice_area ps) (pos 0))) ≡ not (int_eq (twice_area ps) (pos 0))
    go true e = refl
    go false e = let few : length ps < 3 = grind (arith, nat_tests) in rw (area_of_two ps few) refl

-- as code tests it
pub ring_with_area : (ps qs : List Pt) (area : ℤ) → ps ≡ qs → area ≡ twice_area qs → (of_z w128 area ≡ 0 → ⊥) → is_ring ps ≡ true
ring_with_area ps qs area same is some =
    ring_by_area ps ∙ ap (λ (r : List Pt). not (int_eq (twice_area r) (pos 0))) same ∙ ap (λ (a : ℤ). not (int_eq a (pos 0))) (sym is)
    ∙ go (int_eq area (pos 0)) refl
  where
    go : (b : Bool) → int_eq area (pos 0) ≡ b → not b ≡ true
    go true e = absurd (some (ap (of_z w128) ((Decides-int_eq area (pos 0)).0 e)))
    go false e = refl

-- ---- the sum

-- a sum of n parts, and one more
pub sum_is : (i : ℕ) (s u : ℤ) → i < 2 ^ 29 → neg_ℤ (pos (2 ^ 91 * i)) ≤ℤ s → s ≤ℤ pos (2 ^ 91 * i) → IsWithin 91 u
    → to_z w128 (of_z w128 (s +ℤ to_z w128 (of_z w128 u))) ≡ s +ℤ u
sum_is i s u few low high within =
    let u_is = is_128 u (omega (arith, ints)) (omega (arith, ints)) in
    rw u_is (is_128 (s +ℤ u) (omega (arith, ints)) (omega (arith, ints)))

pub sum_fits : (i : ℕ) (s u : ℤ) → i < 2 ^ 29 → neg_ℤ (pos (2 ^ 91 * i)) ≤ℤ s → s ≤ℤ pos (2 ^ 91 * i) → IsWithin 91 u
    → FitsSigned w128 (s +ℤ to_z w128 (of_z w128 u))
sum_fits i s u few low high within =
    let u_is = is_128 u (omega (arith, ints)) (omega (arith, ints)) in
    rw u_is (fits_128 (s +ℤ u) (omega (arith, ints)) (omega (arith, ints)))

module _ (zoom column row : ℕ) (left : List World) (s u whole : ℤ) (from start : Pt) where
  -- the next point
  pub area_item : (rest : List World) (x : World) (to : Pt) → left ≡ x ∷ rest → to ≡ stands_at zoom column row x → u ≡ cross (from, to)
      → area_along s from (map (stands_at zoom column row) left) start ≡ whole
      → area_along (s +ℤ u) to (map (stands_at zoom column row) rest) start ≡ whole
  area_item rest x to first to_is u_is so_far =
      rw u_is (stands_item (λ (r : List Pt). area_along s from r start) zoom column row left rest x to whole first to_is so_far)

  -- the way back to the first
  pub area_over : left ≡ [] → u ≡ cross (from, start) → area_along s from (map (stands_at zoom column row) left) start ≡ whole → s +ℤ u ≡ whole
  area_over none u_is so_far = rw u_is (stands_over (λ (r : List Pt). area_along s from r start) zoom column row left whole none so_far)
