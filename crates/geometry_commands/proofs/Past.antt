-- Shapes that are checked part by part.
use Rattle.std.proofs.Common.{◌≡◌, ℕ, ◌<◌, ◌≤◌, Bool, true, false, eqb, ltb, ne_eqb, List, [], ◌∷◌, length, Result, Ok, Err, refl, ap, ◌∙◌, arith}
use Rattle.std.specs.Prelude.{IsOk, OnOk, IfErr}
use Rattle.std.proofs.lemmas.Bool.{le-ltb, false≢true}
use Rattle.reader.specs.Reading.{Read, ◌>>=◌}
use Rattle.reader.proofs.Steps.{then_stop}
use Rattle.geometry_commands.specs.declared.point.Pt.{Pt}
use Rattle.geometry_commands.specs.declared.decoding.GeometryFault.{GeometryFault}
use Rattle.geometry_commands.specs.declared.decoding.GeometryFault.TheVariants.{Command}
use Rattle.geometry_commands.specs.declared.kinds.ShapeKind.{ShapeKind}
use Rattle.geometry_commands.specs.Commands.{origin}
use Rattle.geometry_commands.specs.Shapes.{ShapeView, IsShape, least}
use Rattle.geometry_commands.specs.Decoding.{Walk, command_at, walk_at, close_at, line_made, line_end, line_others, line_second, line_first, line_at}
use Rattle.geometry_commands.specs.Decoding.{points_at, points_behind, points_end, shape_at}
use Rattle.geometry_commands.proofs.Shaped.{shape_found}

-- ---- what was read

pub ok_is : {Fault A : Type 0} (r : Read Fault A) → IsOk r → (x : A) × (r ≡ Ok x)
ok_is (Ok x) ok = (x, refl)
ok_is (Err d) ok = absurd (false≢true ok)

pub is_ok : {Fault A : Type 0} (r : Read Fault A) (x : A) → r ≡ Ok x → IsOk r
is_ok r x e = rw e refl

-- ---- what a function answers

pub ok_on : {X F P Q : Type 0} (r : Result X F) → (P → Q) → OnOk r P → OnOk r Q
ok_on (Ok x) to h = to h
ok_on (Err d) to h = tt

pub err_on : {X F : Type 0} (P Q : F → Type 0) (r : Result X F) → ((d : F) → P d → Q d) → IfErr r P → IfErr r Q
err_on P Q (Ok x) to h = tt
err_on P Q (Err d) to h = to d h

-- ---- lines

module _ (closed : Bool) (from first : Pt) (ints m f : List ℕ) (e1 : command_at 1 ints ≡ Ok (1, m)) where
  pub line_no_first : (d : GeometryFault) → walk_at 1 [] from m ≡ Err d → line_at closed from ints ≡ Err d
  unfolding line_at
  line_no_first d e2 =
      ap (λ (r : Read GeometryFault (ℕ × List ℕ)). r >>= line_first closed from) e1 ∙ then_stop (walk_at 1 [] from m) (line_second closed) d e2

  pub line_behind : walk_at 1 [] from m ≡ Ok (first ∷ [], first, f) → line_at closed from ints ≡ line_second closed (first ∷ [], first, f)
  unfolding line_at
  line_behind e2 =
      ap (λ (r : Read GeometryFault (ℕ × List ℕ)). r >>= line_first closed from) e1
      ∙ ap (λ (r : Read GeometryFault Walk). r >>= line_second closed) e2

module _ (closed : Bool) (first : Walk) (n : ℕ) (c : List ℕ) (e3 : command_at 2 first.2 ≡ Ok (n, c)) (long : least closed ≤ n) where
  others_behind : line_second closed first ≡ (walk_at n first.0 first.1 c >>= line_end closed)
  unfolding line_second line_others
  others_behind =
      let few : ltb n (least closed) ≡ false = le-ltb n (least closed) long in
      ap (λ (r : Read GeometryFault (ℕ × List ℕ)). r >>= line_others closed first) e3 ∙ rw few refl

  pub others_stop : (d : GeometryFault) → walk_at n first.0 first.1 c ≡ Err d → line_second closed first ≡ Err d
  others_stop d e4 = others_behind ∙ then_stop (walk_at n first.0 first.1 c) (line_end closed) d e4

  pub close_stop : (all : Walk) (d : GeometryFault) → walk_at n first.0 first.1 c ≡ Ok all → close_at closed all.2 ≡ Err d → line_second closed first ≡ Err d
  close_stop all d e4 e5 =
      others_behind ∙ (ap (λ (r : Read GeometryFault Walk). r >>= line_end closed) e4 ∙ then_stop (close_at closed all.2) (line_made all) d e5)

  pub line_whole : (all : Walk) (rest : List ℕ) → walk_at n first.0 first.1 c ≡ Ok all → close_at closed all.2 ≡ Ok rest
      → line_second closed first ≡ Ok (all.0, all.1, rest)
  line_whole all rest e4 e5 =
      others_behind ∙ (ap (λ (r : Read GeometryFault Walk). r >>= line_end closed) e4
      ∙ ap (λ (r : Read GeometryFault (List ℕ)). r >>= line_made all) e5)

-- ---- points

pub points_none : (ints : List ℕ) → length ints ≡ 0 → IsOk (points_at ints)
unfolding points_at
points_none ints none = rw none refl

module _ (ints : List ℕ) (n : ℕ) (c : List ℕ) (e1 : command_at 1 ints ≡ Ok (n, c)) (here : 0 < length ints) (some : 0 < n) where
  points_from : points_at ints ≡ (walk_at n [] origin c >>= points_end)
  unfolding points_at points_behind
  points_from =
      let t : eqb (length ints) 0 ≡ false = ne_eqb (length ints) 0 (λ z. absurd (omega (arith, z, here))) in
      let k : eqb n 0 ≡ false = ne_eqb n 0 (λ z. absurd (omega (arith, z, some))) in
      rw t (ap (λ (r : Read GeometryFault (ℕ × List ℕ)). r >>= points_behind) e1 ∙ rw k refl)

  pub points_stop : (d : GeometryFault) → walk_at n [] origin c ≡ Err d → points_at ints ≡ Err d
  points_stop d e2 = points_from ∙ then_stop (walk_at n [] origin c) points_end d e2

  pub points_whole : (all : Walk) → walk_at n [] origin c ≡ Ok all → length all.2 ≡ 0 → points_at ints ≡ Ok all.0
  unfolding points_end
  points_whole all e2 none =
      points_from ∙ (ap (λ (r : Read GeometryFault Walk). r >>= points_end) e2 ∙ rw none refl)

  pub points_more : (all : Walk) → walk_at n [] origin c ≡ Ok all → 0 < length all.2 → points_at ints ≡ Err Command
  unfolding points_end
  points_more all e2 more =
      let t : eqb (length all.2) 0 ≡ false = ne_eqb (length all.2) 0 (λ z. absurd (omega (arith, z, more))) in
      points_from ∙ (ap (λ (r : Read GeometryFault Walk). r >>= points_end) e2 ∙ rw t refl)

-- ---- shapes

pub shape_is : (kind : ShapeKind) (ints : List ℕ) → IsOk (shape_at kind ints) → (s : ShapeView) × IsShape kind ints s
shape_is kind ints ok = let r = ok_is (shape_at kind ints) ok in (r.0, shape_found kind ints r.0 r.1)
