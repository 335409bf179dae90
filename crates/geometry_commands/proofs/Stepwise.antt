-- Reading step by step.
use Rattle.std.proofs.Common.{◌≡◌, ℕ, ℤ, ◌+ℤ◌, Bool, true, false, cond, List, [], ◌∷◌, ◌++◌, Some, None, Ok, Err, refl}
use Rattle.reader.proofs.Steps.{then_on, then_stop}
use Rattle.geometry_commands.specs.declared.point.Pt.{Pt}
use Rattle.geometry_commands.specs.declared.decoding.GeometryFault.{GeometryFault}
use Rattle.geometry_commands.specs.Ways.{unzigzagged, led_to, fits_axis, fits, along_at, moved_at}
use Rattle.geometry_commands.specs.Decoding.{step_at, walk_step}

pub moved_is : (from : Pt) (dx dy : ℕ) (x y : ℤ) → Some x ≡ along_at from.x dx → Some y ≡ along_at from.y dy
    → Some (record { x = x; y = y }) ≡ moved_at from dx dy
unfolding led_to fits
moved_is from dx dy x y ex ey =
    let px = take_out (fits_axis (from.x +ℤ unzigzagged dx)) (from.x +ℤ unzigzagged dx) x ex in
    let py = take_out (fits_axis (from.y +ℤ unzigzagged dy)) (from.y +ℤ unzigzagged dy) y ey in
    rw (px.0, py.0, px.1, py.1) refl
  where
    take_out : (b : Bool) (z x : ℤ) → Some x ≡ cond b (Some z) None → (b ≡ true) × (x ≡ z)
    take_out true z x e = (refl, cc)
    take_out false z x e = absurd cc

-- one point more leads on
pub walk_step_on : (before : List Pt) (from to : Pt) (rest after : List ℕ) → step_at from rest ≡ Ok (to, after)
    → walk_step (before, from, rest) ≡ Ok (before ++ to ∷ [], to, after)
walk_step_on before from to rest after e = then_on (step_at from rest) (λ s. Ok (before ++ s.0 ∷ [], s.0, s.1)) (to, after) e

-- where no point stands, the step meets the fault
pub walk_step_stop : (before : List Pt) (from : Pt) (rest : List ℕ) (d : GeometryFault) → step_at from rest ≡ Err d → walk_step (before, from, rest) ≡ Err d
walk_step_stop before from rest d e = then_stop (step_at from rest) (λ s. Ok (before ++ s.0 ∷ [], s.0, s.1)) d e
