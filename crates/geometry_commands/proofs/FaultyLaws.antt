-- The fault that reading meets is one that the integers have.
use Rattle.std.proofs.Common.{◌≡◌, ℕ, zero, suc, ◌%◌, ◌/◌, ◌<◌, ◌≤◌, Bool, true, false, cond, eqb, ltb, ne_eqb, ◌⊎◌, inl, inr, List, [], ◌∷◌, ◌++◌, length}
use Rattle.std.proofs.Common.{Ok, Err, refl, sym, ap, subst, ◌∙◌, append_assoc, arith}
use Rattle.std.proofs.lemmas.Bool.{eqb-true, eqb-false, ltb-true, false≢true}
use Rattle.reader.specs.Reading.{Read, ◌>>=◌, repeated}
use Rattle.reader.proofs.Steps.{not_both, same_fault, then_err}
use Rattle.geometry_commands.specs.declared.point.Pt.{Pt}
use Rattle.geometry_commands.specs.declared.decoding.GeometryFault.{GeometryFault}
use Rattle.geometry_commands.specs.declared.decoding.GeometryFault.TheVariants as faults
use Rattle.geometry_commands.specs.Commands.{step, steps, command, origin}
use Rattle.geometry_commands.specs.Ways.{led_to, fits}
use Rattle.geometry_commands.specs.declared.kinds.ShapeKind.{ShapeKind}
use Rattle.geometry_commands.specs.declared.kinds.ShapeKind.TheVariants as kinds
use Rattle.geometry_commands.specs.Shapes.{points, lines, rings, last_of, line_spelled, lines_spelled, least}
use Rattle.geometry_commands.specs.Decoding.{Walk, command_at, step_at, walk_at, close_at, line_made, line_end, line_others, line_second, line_first, line_at}
use Rattle.geometry_commands.specs.Decoding.{lines_in, lines_at, points_end, points_behind, points_at, shape_at}
use Rattle.geometry_commands.specs.Faulty.{CommandHas, ends, other, StepHas, few, far, WalkHas, LineHas, at_move, move_count, at_first, at_line, line_count}
use Rattle.geometry_commands.specs.Faulty.{at_others, at_close, close_count, end_of, LinesHas, PointsHas, at_points, no_point, at_ways, behind, ShapeHas}
use Rattle.geometry_commands.proofs.Spelled.{cells, step_found, command_cons, step_cons, command_found, Walked, walk_first, walk_found, line_found, line_longer}

pub command_has : (id : ℕ) (ints : List ℕ) (d : GeometryFault) → command_at id ints ≡ Err d → CommandHas id ints d
unfolding command_at
command_has id [] d e = ends (sym (same_fault {A = ℕ × List ℕ} faults.Cut d e)) refl
command_has id (c ∷ is) d e = go (eqb (c % 8) id) refl (sym (command_cons id c is) ∙ e)
  where
    go : (b : Bool) → eqb (c % 8) id ≡ b → ◌≡◌ {A = Read GeometryFault (ℕ × List ℕ)} (cond b (Ok (c / 8, is)) (Err faults.Command)) (Err d)
        → CommandHas id (c ∷ is) d
    go true t h = absurd cc
    go false t h = other (sym (same_fault {A = ℕ × List ℕ} faults.Command d h)) c is refl (eqb-false (c % 8) id t)

pub step_has : (from : Pt) (ints : List ℕ) (d : GeometryFault) → step_at from ints ≡ Err d → StepHas from ints d
unfolding step_at
step_has from [] d e = few (sym (same_fault {A = Pt × List ℕ} faults.Cut d e)) (omega arith)
step_has from (a ∷ []) d e = few (sym (same_fault {A = Pt × List ℕ} faults.Cut d e)) (omega arith)
step_has from (a ∷ b ∷ is) d e = go (fits (led_to from a b)) refl (sym (step_cons from a b is) ∙ e)
  where
    go : (t : Bool) → fits (led_to from a b) ≡ t → ◌≡◌ {A = Read GeometryFault (Pt × List ℕ)} (cond t (Ok (led_to from a b, is)) (Err faults.Cursor)) (Err d)
        → StepHas from (a ∷ b ∷ is) d
    go true t h = absurd cc
    go false t h = far (sym (same_fault {A = Pt × List ℕ} faults.Cursor d h)) a b is refl (λ y. false≢true (sym t ∙ y))

pub walk_has : (n : ℕ) (before : List Pt) (from : Pt) (ints : List ℕ) (d : GeometryFault) → walk_at n before from ints ≡ Err d → WalkHas n from ints d
unfolding repeated
walk_has zero before from ints d e = absurd cc
walk_has (suc n) before from ints d e =
    elim (then_err (step_at from ints) (λ s. walk_at n (before ++ s.0 ∷ []) s.0 s.1) d (sym (walk_first n before from ints) ∙ e)) [
      | inl bad ↦ record { points = []; rest = ints; fewer = omega arith; spelled = refl; fits = tt; fault = step_has from ints d bad }
      | inr s ↦ (let one = step_found from ints s.0 s.1 in
          let more = walk_has n (before ++ s.0.0 ∷ []) s.0.0 s.0.1 d s.2 in
          record {
            points = s.0.0 ∷ more.points;
            rest = more.rest;
            fewer = omega (arith, more.fewer);
            spelled = one.0 ∙ ap (λ (t : List ℕ). step from s.0.0 ++ t) more.spelled;
            fits = (one.1, more.fits);
            fault = more.fault;
          })
    ]

close_err : (closed : Bool) (ints : List ℕ) (d : GeometryFault) → close_at closed ints ≡ Err d
    → (closed ≡ true) × (CommandHas 7 ints d ⊎ ((d ≡ faults.Count) × ((n : ℕ) × (rest : List ℕ) × (ints ≡ command 7 n ∷ rest) × (n ≡ 1 → ⊥))))
unfolding close_at
close_err false ints d e = absurd cc
close_err true ints d e = elim (then_err (command_at 7 ints) _ d e) [
  | inl bad ↦ (refl, inl (command_has 7 ints d bad))
  | inr c ↦ (refl, inr (go c.0 (command_found 7 ints c.0 c.1) (eqb c.0.0 1) refl c.2))
]
  where
    go : (c : ℕ × List ℕ) → ints ≡ command 7 c.0 ∷ c.1 → (b : Bool) → eqb c.0 1 ≡ b
        → ◌≡◌ {A = Read GeometryFault (List ℕ)} (cond b (Ok c.1) (Err faults.Count)) (Err d)
        → (d ≡ faults.Count) × ((n : ℕ) × (rest : List ℕ) × (ints ≡ command 7 n ∷ rest) × (n ≡ 1 → ⊥))
    go c is true t h = absurd cc
    go c is false t h = (sym (same_fault {A = List ℕ} faults.Count d h), (c.0, c.1, is, eqb-false c.0 1 t))

pub line_has : (closed : Bool) (from : Pt) (ints : List ℕ) (d : GeometryFault) → line_at closed from ints ≡ Err d → LineHas closed from ints d
unfolding line_at line_second line_others
line_has closed from ints d e = elim (then_err (command_at 1 ints) (line_first closed from) d e) [
  | inl bad ↦ at_move (command_has 1 ints d bad)
  | inr m ↦ one m.0 (command_found 1 ints m.0 m.1) (eqb m.0.0 1) refl m.2
]
  where
    two : (m : List ℕ) → ints ≡ command 1 1 ∷ m → (w : Walk) → Walked 1 [] from m w → (c : ℕ × List ℕ) → w.2 ≡ command 2 c.0 ∷ c.1 → (b : Bool)
        → ltb c.0 (least closed) ≡ b → cond b (Err faults.Count) (walk_at c.0 w.0 w.1 c.1 >>= line_end closed) ≡ Err d → LineHas closed from ints d
    two m is w h c e2 true t bad =
        line_count (sym (same_fault {A = Walk} faults.Count d bad)) h.points c.0 c.1 h.count
        (is ∙ ap (λ (k : List ℕ). command 1 1 ∷ k) (h.spelled ∙ ap (λ (k : List ℕ). steps from h.points ++ k) e2)) (ltb-true c.0 (least closed) t)
    two m is w h c e2 false t more =
        let whole : ints ≡ command 1 1 ∷ (steps from h.points ++ (command 2 c.0 ∷ c.1)) =
        is ∙ ap (λ (k : List ℕ). command 1 1 ∷ k) (h.spelled ∙ ap (λ (k : List ℕ). steps from h.points ++ k) e2) in
        elim (then_err (walk_at c.0 w.0 w.1 c.1) (line_end closed) d more) [
          | inl bad ↦ at_others h.points c.0 c.1 h.count whole (subst (λ (p : Pt). WalkHas c.0 p c.1 d) h.last (walk_has c.0 w.0 w.1 c.1 d bad))
          | inr a ↦ (let q = walk_found c.0 w.0 w.1 c.1 a.0 a.1 in
              let spelled : c.1 ≡ steps (last_of from h.points) q.points ++ a.0.2 = q.spelled ∙ ap (λ (p : Pt). steps p q.points ++ a.0.2) h.last in
              let all : ints ≡ command 1 1 ∷ (steps from h.points ++ (command 2 (length q.points) ∷ (steps (last_of from h.points) q.points ++ a.0.2))) =
              whole ∙ ap (λ (k : List ℕ). command 1 1 ∷ (steps from h.points ++ k))
              (cells (command 2 c.0) (command 2 (length q.points)) c.1 (steps (last_of from h.points) q.points ++ a.0.2) (ap (command 2) (sym q.count))
              spelled) in
              elim (then_err (close_at closed a.0.2) (line_made a.0) d a.2) [
                | inl bad ↦ (let k = close_err closed a.0.2 d bad in elim k.1 [
                  | inl worse ↦ at_close k.0 h.points q.points a.0.2 h.count all worse
                  | inr n ↦ close_count n.0 k.0 h.points q.points n.1.0 n.1.1 h.count
                      (all ∙ ap (λ (r : List ℕ). command 1 1 ∷ (steps from h.points ++
                      (command 2 (length q.points) ∷ (steps (last_of from h.points) q.points ++ r)))) n.1.2) n.1.3
                ])
                | inr r ↦ absurd (not_both (a.0.0, a.0.1, r.0) d r.2)
              ])
        ]

    one : (m : ℕ × List ℕ) → ints ≡ command 1 m.0 ∷ m.1 → (b : Bool) → eqb m.0 1 ≡ b
        → cond b (walk_at 1 [] from m.1 >>= line_second closed) (Err faults.Count) ≡ Err d → LineHas closed from ints d
    one m is false t bad = move_count (sym (same_fault {A = Walk} faults.Count d bad)) m.0 m.1 is (eqb-false m.0 1 t)
    one m is true t more =
        let whole : ints ≡ command 1 1 ∷ m.1 = is ∙ ap (λ (k : ℕ). command 1 k ∷ m.1) (eqb-true m.0 1 t) in
        elim (then_err (walk_at 1 [] from m.1) (line_second closed) d more) [
          | inl bad ↦ at_first m.1 whole (walk_has 1 [] from m.1 d bad)
          | inr w ↦ (let h = walk_found 1 [] from m.1 w.0 w.1 in
              elim (then_err (command_at 2 w.0.2) (line_others closed w.0) d w.2) [
                | inl bad ↦ at_line h.points w.0.2 h.count (whole ∙ ap (λ (k : List ℕ). command 1 1 ∷ k) h.spelled) (command_has 2 w.0.2 d bad)
                | inr c ↦ two m.1 whole w.0 h c.0 (command_found 2 w.0.2 c.0 c.1) (ltb c.0.0 (least closed)) refl c.2
              ])
        ]

pub lines_has : (n : ℕ) (closed : Bool) (before : List (List Pt)) (from : Pt) (ints : List ℕ) (d : GeometryFault) → length ints ≤ n
    → lines_in n closed before from ints ≡ Err d → LinesHas closed from ints d
unfolding lines_in lines_spelled
lines_has zero closed before from ints d le e = absurd cc
lines_has (suc n) closed before from [] d le e = absurd cc
lines_has (suc n) closed before from (i ∷ is) d le e =
    elim (then_err (line_at closed from (i ∷ is)) (λ l. lines_in n closed (before ++ l.0 ∷ []) l.1 l.2) d e) [
      | inl bad ↦ record { lines = []; rest = i ∷ is; spelled = refl; each = tt; some = omega arith; fault = line_has closed from (i ∷ is) d bad }
      | inr l ↦ (let one = line_found closed from (i ∷ is) l.0 l.1 in
          let short = line_longer closed from l.0.0 l.0.2 one.line in
          let more = lines_has n closed (before ++ l.0.0 ∷ []) l.0.1 l.0.2 d (omega (arith, short, ap length one.spelled)) l.2 in
          record {
            lines = l.0.0 ∷ more.lines;
            rest = more.rest;
            spelled = one.spelled ∙ (ap (λ (k : List ℕ). line_spelled closed from l.0.0 ++ k)
                (more.spelled ∙ ap (λ (p : Pt). lines_spelled closed p more.lines ++ more.rest) one.last)
                ∙ sym (append_assoc (line_spelled closed from l.0.0) (lines_spelled closed (last_of from l.0.0) more.lines) more.rest));
            each = (one.line, more.each);
            some = more.some;
            fault = subst (λ (p : Pt). LineHas closed (end_of p more.lines) more.rest d) one.last more.fault;
          })
    ]

points_has : (ints : List ℕ) (d : GeometryFault) → points_at ints ≡ Err d → PointsHas ints d
unfolding points_at points_behind points_end
points_has [] d e = absurd cc
points_has (i ∷ is) d e =
    let t : eqb (suc (length is)) 0 ≡ false = ne_eqb (suc (length is)) 0 (λ z. absurd (omega (arith, z))) in
    elim (then_err (command_at 1 (i ∷ is)) points_behind d (rw t at e)) [
      | inl bad ↦ at_points (omega arith) (command_has 1 (i ∷ is) d bad)
      | inr c ↦ one c.0 (command_found 1 (i ∷ is) c.0 c.1) (eqb c.0.0 0) refl c.2
    ]
  where
    last : (ps : List Pt) (rest : List ℕ) (b : Bool) → eqb (length rest) 0 ≡ b → i ∷ is ≡ command 1 (length ps) ∷ (steps origin ps ++ rest) → (w : List Pt)
        → ◌≡◌ {A = Read GeometryFault (List Pt)} (cond b (Ok w) (Err faults.Command)) (Err d) → PointsHas (i ∷ is) d
    last ps rest true t whole w h = absurd cc
    last ps rest false t whole w h = behind (sym (same_fault {A = List Pt} faults.Command d h)) ps rest whole (some (eqb-false (length rest) 0 t))
      where
        some : (length rest ≡ 0 → ⊥) → 0 < length rest
        some ne = omega arith

    one : (c : ℕ × List ℕ) → i ∷ is ≡ command 1 c.0 ∷ c.1 → (b : Bool) → eqb c.0 0 ≡ b
        → cond b (Err faults.Count) (walk_at c.0 [] origin c.1 >>= points_end) ≡ Err d → PointsHas (i ∷ is) d
    one c whole true t bad = no_point (sym (same_fault {A = List Pt} faults.Count d bad)) c.1 (whole ∙ ap (λ (k : ℕ). command 1 k ∷ c.1) (eqb-true c.0 0 t))
    one c whole false t more = elim (then_err (walk_at c.0 [] origin c.1) points_end d more) [
      | inl bad ↦ at_ways c.0 c.1 whole (walk_has c.0 [] origin c.1 d bad)
      | inr w ↦ (let h = walk_found c.0 [] origin c.1 w.0 w.1 in
          last h.points w.0.2 (eqb (length w.0.2) 0) refl (whole
          ∙ cells (command 1 c.0) (command 1 (length h.points)) c.1 (steps origin h.points ++ w.0.2) (ap (command 1) (sym h.count)) h.spelled) w.0.0 w.2)
    ]

pub shape_has : (kind : ShapeKind) (ints : List ℕ) (d : GeometryFault) → shape_at kind ints ≡ Err d → ShapeHas kind ints d
unfolding shape_at
shape_has kinds.Unknown ints d e = absurd cc
shape_has kinds.Points ints d e =
    elim (then_err (points_at ints) (λ ps. Ok (points ps)) d e) [ inl bad ↦ points_has ints d bad | inr x ↦ absurd (not_both (points x.0) d x.2) ]
shape_has kinds.Lines ints d e =
    elim (then_err (lines_at false ints) (λ ls. Ok (lines ls)) d e)
    [ inl bad ↦ lines_has (length ints) false [] origin ints d (omega arith) bad | inr x ↦ absurd (not_both (lines x.0) d x.2) ]
shape_has kinds.Polygons ints d e =
    elim (then_err (lines_at true ints) (λ ls. Ok (rings ls)) d e)
    [ inl bad ↦ lines_has (length ints) true [] origin ints d (omega arith) bad | inr x ↦ absurd (not_both (rings x.0) d x.2) ]
