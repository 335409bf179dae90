-- Rings: the last point, the way round.
use Rattle.std.proofs.Common.{◌≡◌, ℕ, Bool, true, false, cond, suc, List, [], ◌∷◌, Option, Some, take, drop, length, slice_get, ◌-◌, map, reverse, refl, ap}
use Rattle.std.proofs.Common.{◌∙◌, arith}
use Rattle.std.proofs.lemmas.List.{append-nil, length-map, take_all, drop_all}
use Rattle.std.specs.List.{take-map}
use Rattle.geometry_commands.specs.declared.point.Pt.{Pt}
use Rattle.geometry_commands.specs.Shapes.{last_of}
use Rattle.feature_model.specs.declared.feature.World.{World}
use Rattle.tile_cutter.specs.Cut.{turned, position_in, is_closed, last_from, quantised_points, tile_points, tile_ring}
use Rattle.tile_cutter.specs.Passes.{repeats, returns_to_start}
use Rattle.tile_cutter.proofs.Passes.{position_same}
use borrow.Rule.Slice.PartMut.{put_mid}

pub last_is : (p : Pt) (ps : List Pt) → slice_get (p ∷ ps) (length ps) ≡ Some (last_of p ps)
last_is p [] = refl
last_is p (q ∷ qs) = last_is q qs

last_position : (column row : ℕ) (p : World) (ps : List World)
    → last_of (position_in column row p) (map (position_in column row) ps) ≡ position_in column row (last_from p ps)
last_position column row p [] = refl
last_position column row p (q ∷ qs) = last_position column row q qs

closed_positions : (column row : ℕ) (ps : List World) → returns_to_start (map (position_in column row) ps) ≡ is_closed ps
closed_positions column row [] = refl
closed_positions column row (p ∷ ps) = rw (last_position column row p ps) (position_same column row p (last_from p ps))

pub opened_positions : (column row : ℕ) (ps : List World) (b : Bool)
    → cond b (take (length ps - 1) (map (position_in column row) ps)) (map (position_in column row) ps)
    ≡ map (position_in column row) (cond b (take (length ps - 1) ps) ps)
opened_positions column row ps true = take-map (position_in column row) (length ps - 1) ps
opened_positions column row ps false = refl

-- a ring of a tile: its points, without the last where that returns to the start
pub ring_opened : (zoom column row : ℕ) (ps : List World) (ring out : List Pt) (n : ℕ) (b : Bool) → ring ≡ tile_points zoom column row ps
    → b ≡ returns_to_start ring → n ≡ length ring
    → out ≡ cond b (take (n - 1) ring) ring → out ≡ tile_ring zoom column row ps
ring_opened zoom column row ps ring out n b ring_is b_is n_is out_is =
    let qs = quantised_points zoom ps in
    let closed : b ≡ is_closed qs = b_is ∙ ap returns_to_start ring_is ∙ closed_positions column row qs in
    let long : n ≡ length qs = n_is ∙ ap length ring_is ∙ length-map qs (position_in column row) in
    rw (out_is, long, ring_is, closed) (opened_positions column row qs (is_closed qs))

pub returns_where : (ps : List Pt) (first : Pt) (last : Option Pt) → slice_get ps 0 ≡ Some first → last ≡ slice_get ps (length ps - 1)
    → repeats last first ≡ returns_to_start ps
returns_where [] first last none e = cc
returns_where (p ∷ ps) first last some e =
    let same : first ≡ p = cc in
    let one : suc (length ps) - 1 ≡ length ps = omega arith in
    let last_some : last ≡ Some (last_of p ps) = e ∙ ap (slice_get (p ∷ ps)) one ∙ last_is p ps in
    rw (last_some, same) refl

pub turned_is : (ps rest : List Pt) → rest ≡ reverse (take (length ps - 1) (drop 1 ps)) → put_mid 1 (length ps - 1) ps rest ≡ turned ps
turned_is [] rest e = rw e refl
turned_is (p ∷ ps) rest e =
    let one : suc (length ps) - 1 ≡ length ps = omega arith in
    let whole : take (length ps) ps ≡ ps = take_all (length ps) ps (omega arith) in
    let nothing : drop (length ps) ps ≡ [] = drop_all (length ps) ps (omega arith) in
    rw (e, one, whole, nothing) (ap (λ (r : List Pt). p ∷ r) (append-nil (reverse ps)))
