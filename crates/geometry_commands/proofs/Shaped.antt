-- Reading gives exactly the shapes that are spelled.
use Rattle.std.proofs.Common.{◌≡◌, ℕ, suc, Bool, true, false, eqb, ne_eqb, List, [], ◌∷◌, ◌++◌, length, Ok, refl, sym, ap, subst, ◌∙◌, arith}
use Rattle.std.specs.List.{AllByRecursion}
use Rattle.std.proofs.lemmas.Bool.{eqb-true, eqb-false}
use Rattle.std.proofs.lemmas.List.{append-nil}
use Rattle.reader.specs.Reading.{Read, ◌>>=◌}
use Rattle.reader.proofs.Steps.{done, same_value, then_ok, guard_ok, pass_ok}
use Rattle.geometry_commands.specs.declared.point.Pt.{Pt}
use Rattle.geometry_commands.specs.declared.decoding.GeometryFault.{GeometryFault}
use Rattle.geometry_commands.specs.declared.decoding.GeometryFault.TheVariants.{Command, Count}
use Rattle.geometry_commands.specs.declared.kinds.ShapeKind.{ShapeKind}
use Rattle.geometry_commands.specs.declared.kinds.ShapeKind.TheVariants as kinds
use Rattle.geometry_commands.specs.Commands.{command, steps, points_spelled, origin}
use Rattle.geometry_commands.specs.Ways.{FitsPt}
use Rattle.geometry_commands.specs.Shapes.{ShapeView, points, lines, rings, raw, lines_spelled, IsLine, IsShape, last_of}
use Rattle.geometry_commands.specs.Decoding.{Walk, command_at, walk_at, points_end, points_behind, points_at, lines_at, shape_at}
use Rattle.geometry_commands.proofs.Spelled.{cells, command_found, command_again, walk_found, walk_again, lines_found, lines_again}

spelled_points : (ints : List ℕ) (ps : List Pt) (n : ℕ) (t rest : List ℕ) → ints ≡ command 1 n ∷ t → t ≡ steps origin ps ++ rest → length ps ≡ n → (n ≡ 0 → ⊥)
    → length rest ≡ 0 → ints ≡ points_spelled ps
spelled_points ints [] n t rest e1 e2 count some none = absurd (some (sym count))
spelled_points ints (p ∷ ps) n t (r ∷ rest) e1 e2 count some none = absurd (omega arith)
spelled_points ints (p ∷ ps) n t [] e1 e2 count some none =
    let e3 = append-nil (steps origin (p ∷ ps)) in
    let e4 : command 1 n ≡ command 1 (length (p ∷ ps)) = ap (command 1) (sym count) in
    e1 ∙ cells (command 1 n) (command 1 (length (p ∷ ps))) t (steps origin (p ∷ ps)) e4 (e2 ∙ e3)

pub points_found : (ints : List ℕ) (ps : List Pt) → points_at ints ≡ Ok ps → (ints ≡ points_spelled ps) × AllByRecursion FitsPt ps
unfolding points_at points_behind points_end
points_found [] ps e =
    let F : List Pt → Type 0 = λ q. ([] ≡ points_spelled q) × AllByRecursion FitsPt q in
    subst F (same_value {Fault = GeometryFault} [] ps e) (refl, tt)
points_found (i ∷ is) ps e =
    let t : eqb (suc (length is)) 0 ≡ false = ne_eqb (suc (length is)) 0 (λ z. absurd (omega (arith, z))) in
    let e' = rw t at e in
    let c = then_ok (command_at 1 (i ∷ is)) points_behind ps e' in
    let g = guard_ok (eqb c.0.0 0) Count (walk_at c.0.0 [] origin c.0.1 >>= points_end) ps c.2 in
    let w = then_ok (walk_at c.0.0 [] origin c.0.1) points_end ps g.1 in
    let p = pass_ok (eqb (length w.0.2) 0) Command (Ok w.0.0) ps w.2 in
    let q = walk_found c.0.0 [] origin c.0.1 w.0 w.1 in
    let same : ps ≡ q.points = sym (same_value {Fault = GeometryFault} w.0.0 ps p.1) ∙ q.all in
    let F : List Pt → Type 0 = λ q. (i ∷ is ≡ points_spelled q) × AllByRecursion FitsPt q in
    subst F (sym same) (
      spelled_points (i ∷ is) q.points c.0.0 c.0.1 w.0.2 (command_found 1 (i ∷ is) c.0 c.1) q.spelled q.count (eqb-false c.0.0 0 g.0)
          (eqb-true (length w.0.2) 0 p.0),
      q.fits,
    )

pub points_again : (ps : List Pt) → AllByRecursion FitsPt ps → points_at (points_spelled ps) ≡ Ok ps
unfolding points_at points_behind points_end
points_again [] h = refl
points_again (p ∷ ps) h =
    let n : ℕ = suc (length ps) in
    let ways : List ℕ = steps origin (p ∷ ps) in
    let t : eqb (suc (length ways)) 0 ≡ false = ne_eqb (suc (length ways)) 0 (λ z. absurd (omega (arith, z))) in
    let k : eqb (suc (length ps)) 0 ≡ false = ne_eqb (suc (length ps)) 0 (λ z. absurd (omega (arith, z))) in
    let e1 = command_again 1 n ways (omega arith) in
    let e2 : walk_at n [] origin ways ≡ Ok (p ∷ ps, last_of origin (p ∷ ps), []) =
    ap (walk_at n [] origin) (sym (append-nil ways)) ∙ walk_again (p ∷ ps) [] origin [] h in
    rw t (ap (λ (r : Read GeometryFault (ℕ × List ℕ)). r >>= points_behind) e1 ∙ rw k (ap (λ (r : Read GeometryFault Walk). r >>= points_end) e2))

-- lines, or rings, that were read are spelled so
lines_spell : (closed : Bool) (ints : List ℕ) (ls : List (List Pt)) → lines_at closed ints ≡ Ok ls
    → (ints ≡ lines_spelled closed origin ls) × AllByRecursion (IsLine closed) ls
lines_spell closed ints ls e =
    let q = lines_found (length ints) closed [] origin ints ls (omega arith) e in
    let G : List (List Pt) → Type 0 = λ ls. (ints ≡ lines_spelled closed origin ls) × AllByRecursion (IsLine closed) ls in
    subst G (sym q.all_is) (q.spelled, q.each)

pub shape_found : (kind : ShapeKind) (ints : List ℕ) (s : ShapeView) → shape_at kind ints ≡ Ok s → IsShape kind ints s
unfolding shape_at
shape_found kinds.Unknown ints s e =
    let F : ShapeView → Type 0 = λ v. IsShape kinds.Unknown ints v in subst F (same_value {Fault = GeometryFault} (raw ints) s e) refl
shape_found kinds.Points ints s e =
    let p = then_ok (points_at ints) (λ ps. Ok (points ps)) s e in
    let F : ShapeView → Type 0 = λ v. IsShape kinds.Points ints v in
    subst F (same_value {Fault = GeometryFault} (points p.0) s p.2) (points_found ints p.0 p.1)
shape_found kinds.Lines ints s e =
    let p = then_ok (lines_at false ints) (λ ls. Ok (lines ls)) s e in
    let F : ShapeView → Type 0 = λ v. IsShape kinds.Lines ints v in
    subst F (same_value {Fault = GeometryFault} (lines p.0) s p.2) (lines_spell false ints p.0 p.1)
shape_found kinds.Polygons ints s e =
    let p = then_ok (lines_at true ints) (λ ls. Ok (rings ls)) s e in
    let F : ShapeView → Type 0 = λ v. IsShape kinds.Polygons ints v in
    subst F (same_value {Fault = GeometryFault} (rings p.0) s p.2) (lines_spell true ints p.0 p.1)

lines_read : (closed : Bool) (ints : List ℕ) (ls : List (List Pt)) → ints ≡ lines_spelled closed origin ls → AllByRecursion (IsLine closed) ls
    → lines_at closed ints ≡ Ok ls
lines_read closed ints ls e h = ap (lines_at closed) e ∙ lines_again ls (length (lines_spelled closed origin ls)) closed [] origin (omega arith) h

pub shape_again : (kind : ShapeKind) (ints : List ℕ) (s : ShapeView) → IsShape kind ints s → shape_at kind ints ≡ Ok s
unfolding shape_at
shape_again kinds.Unknown ints (raw ns) h = ap (λ (k : List ℕ). done (raw k)) h
shape_again kinds.Points ints (points ps) h = ap (λ (r : Read GeometryFault (List Pt)). r >>= λ ps. Ok (points ps)) (ap points_at h.0 ∙ points_again ps h.1)
shape_again kinds.Lines ints (lines ls) h = ap (λ (r : Read GeometryFault (List (List Pt))). r >>= λ ls. Ok (lines ls)) (lines_read false ints ls h.0 h.1)
shape_again kinds.Polygons ints (rings ls) h = ap (λ (r : Read GeometryFault (List (List Pt))). r >>= λ ls. Ok (rings ls)) (lines_read true ints ls h.0 h.1)
shape_again kinds.Unknown ints (points _) h = absurd h
shape_again kinds.Unknown ints (lines _) h = absurd h
shape_again kinds.Unknown ints (rings _) h = absurd h
shape_again kinds.Points ints (raw _) h = absurd h
shape_again kinds.Points ints (lines _) h = absurd h
shape_again kinds.Points ints (rings _) h = absurd h
shape_again kinds.Lines ints (raw _) h = absurd h
shape_again kinds.Lines ints (points _) h = absurd h
shape_again kinds.Lines ints (rings _) h = absurd h
shape_again kinds.Polygons ints (raw _) h = absurd h
shape_again kinds.Polygons ints (points _) h = absurd h
shape_again kinds.Polygons ints (lines _) h = absurd h
