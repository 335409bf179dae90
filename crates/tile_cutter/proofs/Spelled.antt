-- What a tile shows can be written: from point to point no way is longer than 32 bits hold.
use Rattle.std.proofs.Common.{◌≡◌, ℕ, ℤ, ◌^◌, ◌<◌, ◌≤◌, ◌-ℤ◌, suc, ◌==◌, Bool, true, false, cond, Vec, vec_len, Global, List, [], ◌∷◌, length}
use Rattle.std.proofs.Common.{arith}
use Rattle.std.specs.Prelude.{All, filter}
use Rattle.std.proofs.lemmas.Int.{ints}
use Rattle.std.proofs.lemmas.List.Elements.{All-head, All-tail}
use Rattle.std.proofs.lemmas.Bool.Decides.{Decides-eqb, not_from_Decides}
use Rattle.geometry_commands.specs.declared.point.Pt.{Pt}
use Rattle.geometry_commands.specs.Commands.{IsShort, IsNear, AreNear, origin}
use Rattle.geometry_commands.specs.Shapes.{last_of}
use Rattle.geometry_commands.specs.Encodable.{CanSpellLines, CanSpellPoints}
use Rattle.feature_model.specs.declared.feature.World.{World}
use Rattle.feature_model.specs.declared.limits.TheConstants.{MAX_ZOOM}
use Rattle.tile_cutter.specs.Cut.{tile_points, in_box, points_cut}
use Rattle.tile_cutter.proofs.Kept.{length_points}
use Rattle.tile_cutter.proofs.Zooms.{side_low}
use Rattle.tile_cutter.specs.Range.{IsOfSide, IsOfTile, IsDrawable}

side_short : (at : ℕ) (u v : ℤ) → IsOfSide at u → IsOfSide at v → IsShort (v -ℤ u)
side_short at u v u_is v_is = (omega (arith, ints), omega (arith, ints))

pub near_in_tile : (column row : ℕ) (p q : Pt) → IsOfTile column row p → IsOfTile column row q → IsNear p q
near_in_tile column row p q p_is q_is = (side_short column p.x q.x p_is.across q_is.across, side_short row p.y q.y p_is.down q_is.down)

pub all_near : (column row : ℕ) (p : Pt) (qs : List Pt) → IsOfTile column row p → All (IsOfTile column row) qs → AreNear p qs
all_near column row p [] p_is all = tt
all_near column row p (q ∷ qs) p_is all =
    let here = All-head (IsOfTile column row) q qs all in
    (near_in_tile column row p q p_is here, all_near column row q qs here (All-tail (IsOfTile column row) q qs all))

pub last_of_tile : (column row : ℕ) (p : Pt) (qs : List Pt) → IsOfTile column row p → All (IsOfTile column row) qs → IsOfTile column row (last_of p qs)
last_of_tile column row p [] p_is all = p_is
last_of_tile column row p (q ∷ qs) p_is all = last_of_tile column row q qs (All-head (IsOfTile column row) q qs all) (All-tail (IsOfTile column row) q qs all)

pub lines_spell : (closed : Bool) (column row : ℕ) (from : Pt) (ls : List (List Pt)) → IsOfTile column row from → All (IsDrawable closed column row) ls
    → CanSpellLines closed from ls
lines_spell closed column row from [] from_is all = tt
lines_spell closed column row from (l ∷ ls) from_is all =
    let here = All-head (IsDrawable closed column row) l ls all in (
      record { long = here.long; few = here.few; near = all_near column row from l from_is here.of_tile },
      lines_spell closed column row (last_of from l) ls (last_of_tile column row from l from_is here.of_tile)
          (All-tail (IsDrawable closed column row) l ls all),
    )

-- the origin is in the world of each tile
pub origin_of_tile : (zoom column row : ℕ) → zoom ≤ MAX_ZOOM → column < 2 ^ zoom → row < 2 ^ zoom → IsOfTile column row origin
origin_of_tile zoom column row allowed across down =
    let columns = side_low zoom column allowed across in
    let rows = side_low zoom row allowed down in
    record {
      across = record { low = omega (arith, ints); high = omega (arith, ints) };
      down = record { low = omega (arith, ints); high = omega (arith, ints) };
    }

pub spelled_lines : (closed : Bool) (zoom column row : ℕ) (ls : List (List Pt)) → zoom ≤ MAX_ZOOM → column < 2 ^ zoom → row < 2 ^ zoom
    → All (IsDrawable closed column row) ls → CanSpellLines closed origin ls
spelled_lines closed zoom column row ls allowed across down all =
    lines_spell closed column row origin ls (origin_of_tile zoom column row allowed across down) all

pub spelled_points : (zoom column row : ℕ) (ps : List Pt) → zoom ≤ MAX_ZOOM → column < 2 ^ zoom → row < 2 ^ zoom → 0 < length ps → length ps < 2 ^ 29
    → All (IsOfTile column row) ps → CanSpellPoints ps
spelled_points zoom column row ps allowed across down some few all = record {
  some = some;
  few = few;
  near = all_near column row origin ps (origin_of_tile zoom column row allowed across down) all;
}

-- ---- a shape, where something is left

pub some_length : {V : Type 0} (v : Vec V Global) → (vec_len v == 0) ≡ false → 0 < length v.items
some_length v some =
    let ne = not_from_Decides (vec_len v == 0) (Decides-eqb (vec_len v) 0) some in
    omega (arith, v.ok.0)

pub none_length : {V : Type 0} (v : Vec V Global) → (vec_len v == 0) ≡ true → length v.items ≡ 0
none_length v empty =
    let none = (Decides-eqb (vec_len v) 0).0 empty in
    omega (arith, v.ok.0)

pub length_filter : {X : Type 0} (p : X → Bool) (xs : List X) → length (filter p xs) ≤ length xs
length_filter p [] = omega arith
length_filter p (x ∷ xs) = go (p x) (length_filter p xs)
  where
    go : (b : Bool) → length (filter p xs) ≤ length xs → length (cond b (x ∷ filter p xs) (filter p xs)) ≤ suc (length xs)
    go true less = omega arith
    go false less = omega arith

pub length_points_cut : (zoom column row : ℕ) (ps : List World) → length (points_cut zoom column row ps) ≤ length ps
unfolding points_cut
length_points_cut zoom column row ps = omega (arith, length_filter in_box (tile_points zoom column row ps), length_points zoom column row ps)
