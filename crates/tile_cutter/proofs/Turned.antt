-- Rings the way round that they have to go.
use Rattle.std.proofs.Common.{◌≡◌, ℕ, ◌^◌, ◌<◌, suc, pos, int_lt, nat_le, Bool, true, false, cond, not, ◌&&◌, List, [], ◌∷◌, ◌++◌, Some, None, map}
use Rattle.std.proofs.Common.{reverse}
use Rattle.std.proofs.Common.{length, refl, ap, arith}
use Rattle.std.specs.Prelude.{All, filter, flat_map, option_to_list}
use mathlib.Core.List.{reverse_aux}
use Rattle.std.specs.Ordering.{int_eq}
use Rattle.std.proofs.lemmas.List.{length-reverse}
use Rattle.std.proofs.lemmas.List.Elements.{All-nil, All-cons, All-head, All-tail}
use Rattle.std.proofs.lemmas.Bool.Decides.{nat_tests}
use Rattle.feature_model.specs.declared.feature.World.{World}
use Rattle.geometry_commands.specs.declared.point.Pt.{Pt}
use Rattle.tile_cutter.specs.declared.rings.Role.{Role}
use Rattle.tile_cutter.specs.declared.rings.Role.TheVariants.{Outer, Inner}
use Rattle.tile_cutter.specs.Cut.{tile_ring, twice_area, is_ring, turned, outward, inward, meets_box, inner_rings, polygon_cut}
use Rattle.tile_cutter.specs.Passes.{wound, shown_ring}
use Rattle.tile_cutter.specs.Range.{IsOfTile, IsDrawable}

all_reverse_aux : {X : Type 0} (P : X → Type 0) (xs ys : List X) → All P xs → All P ys → All P (reverse_aux xs ys)
all_reverse_aux P [] ys xs_all ys_all = ys_all
all_reverse_aux P (x ∷ xs) ys xs_all ys_all = all_reverse_aux P xs (x ∷ ys) (All-tail P x xs xs_all) (All-cons P x ys (All-head P x xs xs_all) ys_all)

all_turned : (P : Pt → Type 0) (ps : List Pt) → All P ps → All P (turned ps)
all_turned P [] all = all
all_turned P (p ∷ ps) all = All-cons P p (reverse ps) (All-head P p ps all) (all_reverse_aux P ps [] (All-tail P p ps all) (All-nil P))

pub length_turned : (ps : List Pt) → length (turned ps) ≡ length ps
length_turned [] = refl
length_turned (p ∷ ps) = ap suc (length-reverse ps)

pub turned_drawable : (column row : ℕ) (ps : List Pt) (b : Bool) → IsDrawable true column row ps → IsDrawable true column row (cond b (turned ps) ps)
turned_drawable column row ps true d =
    record {
      long = omega (arith, length_turned ps, d.long);
      few = omega (arith, length_turned ps, d.few);
      of_tile = all_turned (IsOfTile column row) ps d.of_tile;
    }
turned_drawable column row ps false d = d

pub ring_long : (ps : List Pt) → is_ring ps ≡ true → 2 < length ps
ring_long ps e = go (nat_le 3 (length ps)) refl e
  where
    go : (b : Bool) → nat_le 3 (length ps) ≡ b → (b && not (int_eq (twice_area ps) (pos 0))) ≡ true → 2 < length ps
    go true long both = grind (arith, nat_tests)
    go false short both = cc

-- a ring the way round that it has to go can be written
either_way : (column row : ℕ) (ps : List Pt) (b turns : Bool) → length ps < 2 ^ 29 → All (IsOfTile column row) ps → is_ring ps ≡ b
    → All (IsDrawable true column row) (option_to_list (cond b (Some (cond turns (turned ps) ps)) None))
either_way column row ps false turns few of_tile is = All-nil (IsDrawable true column row)
either_way column row ps true turns few of_tile is =
    All-cons (IsDrawable true column row) (cond turns (turned ps) ps) []
    (turned_drawable column row ps turns (record { long = ring_long ps is; few = few; of_tile = of_tile })) (All-nil (IsDrawable true column row))

pub wound_drawable : (column row : ℕ) (role : Role) (ps : List Pt) → length ps < 2 ^ 29 → All (IsOfTile column row) ps
    → All (IsDrawable true column row) (option_to_list (wound role ps))
wound_drawable column row Outer ps few of_tile = either_way column row ps (is_ring ps) (int_lt (twice_area ps) (pos 0)) few of_tile refl
wound_drawable column row Inner ps few of_tile = either_way column row ps (is_ring ps) (int_lt (pos 0) (twice_area ps)) few of_tile refl

-- inner rings, one after the other
pub inner_rings_are : (zoom column row : ℕ) (rs : List (List World))
    → flat_map (λ r. option_to_list (shown_ring Inner (tile_ring zoom column row r))) rs ≡ inner_rings zoom column row rs
unfolding inner_rings
inner_rings_are zoom column row [] = refl
inner_rings_are zoom column row (r ∷ rs) = go (is_ring (tile_ring zoom column row r)) (inner_rings_are zoom column row rs)
  where
    go : (b : Bool)
        → flat_map (λ r. option_to_list (shown_ring Inner (tile_ring zoom column row r))) rs ≡ map inward (filter is_ring (map (tile_ring zoom column row) rs))
        → option_to_list (cond b (Some (inward (tile_ring zoom column row r))) None)
        ++ flat_map (λ r. option_to_list (shown_ring Inner (tile_ring zoom column row r))) rs
        ≡ map inward
        (cond b (tile_ring zoom column row r ∷ filter is_ring (map (tile_ring zoom column row) rs)) (filter is_ring (map (tile_ring zoom column row) rs)))
    go true e = ap (λ rest. inward (tile_ring zoom column row r) ∷ rest) e
    go false e = e

-- ---- a polygon by its outer ring

pub polygon_shown : (zoom column row : ℕ) (outer : List World) (inners : List (List World)) (ring : List Pt)
    → shown_ring Outer (tile_ring zoom column row outer) ≡ Some ring
    → polygon_cut zoom column row (outer ∷ inners) ≡ ring ∷ inner_rings zoom column row inners
unfolding polygon_cut
polygon_shown zoom column row outer inners ring e = go (meets_box (tile_ring zoom column row outer)) (is_ring (tile_ring zoom column row outer)) e
  where
    go : (meets b : Bool) → cond meets (cond b (Some (outward (tile_ring zoom column row outer))) None) None ≡ Some ring
        → cond (b && meets) (outward (tile_ring zoom column row outer) ∷ inner_rings zoom column row inners) [] ≡ ring ∷ inner_rings zoom column row inners
    go true true some = cc
    go true false none = cc
    go false true none = cc
    go false false none = cc

pub polygon_hidden : (zoom column row : ℕ) (outer : List World) (inners : List (List World)) → shown_ring Outer (tile_ring zoom column row outer) ≡ None
    → polygon_cut zoom column row (outer ∷ inners) ≡ []
unfolding polygon_cut
polygon_hidden zoom column row outer inners e = go (meets_box (tile_ring zoom column row outer)) (is_ring (tile_ring zoom column row outer)) e
  where
    go : (meets b : Bool) → cond meets (cond b (Some (outward (tile_ring zoom column row outer))) None) None ≡ None
        → cond (b && meets) (outward (tile_ring zoom column row outer) ∷ inner_rings zoom column row inners) [] ≡ []
    go true true some = cc
    go true false none = refl
    go false true none = refl
    go false false none = refl
