-- What is read is spelled so, and what is spelled so is read.
use Rattle.std.proofs.Common.{◌≡◌, ℕ, ℤ, pos, negsuc, zero, suc, ◌+◌, ◌-◌, ◌*◌, ◌/◌, ◌%◌, ◌<◌, ◌≤◌, ◌+ℤ◌, ◌-ℤ◌, Bool, true, false, cond, eqb, ltb, ne_eqb, List}
use Rattle.std.proofs.Common.{[], ◌∷◌, ◌++◌, length, Result, Ok, Err, refl, sym, ap, subst, ◌∙◌, append_assoc, arith}
use Rattle.std.specs.List.{AllByRecursion}
use Rattle.std.proofs.lemmas.Bool.{eq-eqb, eqb-true, eqb-false, ltb-false, le-ltb}
use Rattle.std.proofs.lemmas.Int.{ints}
use Rattle.std.proofs.lemmas.List.{append-nil, length-append}
use Rattle.pb_wire.specs.Zigzag.{zigzagged}
use Rattle.reader.specs.Reading.{Read, ◌>>=◌, repeated, Reads}
use Rattle.reader.proofs.Steps.{done, same_value, then_ok, then_on, then_stop, then_same, guard_ok, pass_ok}
use Rattle.geometry_commands.specs.declared.point.Pt.{Pt}
use Rattle.geometry_commands.specs.declared.decoding.GeometryFault.{GeometryFault}
use Rattle.geometry_commands.specs.declared.decoding.GeometryFault.TheVariants.{Command, Count, Cursor}
use Rattle.geometry_commands.specs.Commands.{step, steps, command}
use Rattle.geometry_commands.specs.Ways.{unzigzagged, led_to, fits, FitsPt}
use Rattle.geometry_commands.specs.Shapes.{last_of, close_spelled, line_spelled, lines_spelled, least, IsLine}
use Rattle.geometry_commands.specs.Decoding.{Walk, command_at, step_at, walk_step, walk_at, close_at, line_made, line_end, line_others, line_second, line_first}
use Rattle.geometry_commands.specs.Decoding.{line_at, lines_in}

zigzag_back : (n : ℕ) → zigzagged (unzigzagged n) ≡ n
zigzag_back n = go (eqb (n % 2) 0) refl
  where
    go : (b : Bool) → eqb (n % 2) 0 ≡ b → zigzagged (cond b (pos (n / 2)) (negsuc (n / 2))) ≡ n
    go true e = let h = eqb-true (n % 2) 0 e in omega (arith, h)
    go false e = let h = eqb-false (n % 2) 0 e in omega (arith, h)

unzigzag_back : (z : ℤ) → unzigzagged (zigzagged z) ≡ z
unzigzag_back (pos m) =
    let t : eqb (2 * m % 2) 0 ≡ true = eq-eqb (2 * m % 2) 0 (omega arith) in
    let d : 2 * m / 2 ≡ m = omega arith in
    rw (t, d) refl
unzigzag_back (negsuc m) =
    let t : eqb ((2 * m + 1) % 2) 0 ≡ false = ne_eqb ((2 * m + 1) % 2) 0 (λ z. absurd (omega (arith, z))) in
    let d : (2 * m + 1) / 2 ≡ m = omega arith in
    rw (t, d) refl

way_back : (x d : ℤ) → (x +ℤ d) -ℤ x ≡ d
way_back x d = omega (arith, ints)

way_there : (x y : ℤ) → x +ℤ (y -ℤ x) ≡ y
way_there x y = omega (arith, ints)

-- two lists by their first items and what stands behind these
pub cells : (a b : ℕ) (s t : List ℕ) → a ≡ b → s ≡ t → a ∷ s ≡ b ∷ t
cells a b s t head tail = cc

-- ---- commands

pub command_cons : (id c : ℕ) (is : List ℕ) → command_at id (c ∷ is) ≡ cond (eqb (c % 8) id) (Ok (c / 8, is)) (Err Command)
unfolding command_at
command_cons id c is = let t : eqb (suc (length is)) 0 ≡ false = ne_eqb (suc (length is)) 0 (λ z. absurd (omega (arith, z))) in rw t refl

pub command_found : (id : ℕ) (ints : List ℕ) (r : ℕ × List ℕ) → command_at id ints ≡ Ok r → ints ≡ command id r.0 ∷ r.1
unfolding command_at
command_found id [] r e = absurd cc
command_found id (c ∷ is) r e =
    let p = pass_ok (eqb (c % 8) id) Command (Ok (c / 8, is)) r (sym (command_cons id c is) ∙ e) in
    let k = eqb-true (c % 8) id p.0 in
    let same : (c / 8, is) ≡ r = same_value {Fault = GeometryFault} (c / 8, is) r p.1 in
    let n : c / 8 ≡ r.0 = ap (λ (q : ℕ × List ℕ). q.0) same in
    let t : is ≡ r.1 = ap (λ (q : ℕ × List ℕ). q.1) same in
    let h : c ≡ command id r.0 = omega (arith, k, n) in
    cells c (command id r.0) is r.1 h t

pub command_again : (id n : ℕ) (rest : List ℕ) → id < 8 → command_at id (command id n ∷ rest) ≡ Ok (n, rest)
command_again id n rest lt =
    let t : eqb ((id + 8 * n) % 8) id ≡ true = eq-eqb ((id + 8 * n) % 8) id (omega arith) in
    let d : (id + 8 * n) / 8 ≡ n = omega arith in
    command_cons id (id + 8 * n) rest ∙ rw (t, d) refl

-- ---- ways

pub step_cons : (from : Pt) (a b : ℕ) (is : List ℕ) → step_at from (a ∷ b ∷ is) ≡ cond (fits (led_to from a b)) (Ok (led_to from a b, is)) (Err Cursor)
unfolding step_at
step_cons from a b is = let t : ltb (suc (suc (length is))) 2 ≡ false = le-ltb (suc (suc (length is))) 2 (omega arith) in rw t refl

pub step_found : (from : Pt) (ints : List ℕ) (r : Pt × List ℕ) → step_at from ints ≡ Ok r → (ints ≡ step from r.0 ++ r.1) × FitsPt r.0
unfolding step_at led_to
step_found from [] r e = absurd cc
step_found from (a ∷ []) r e = absurd cc
step_found from (a ∷ b ∷ is) r e =
    let p = pass_ok (fits (led_to from a b)) Cursor (Ok (led_to from a b, is)) r (sym (step_cons from a b is) ∙ e) in
    let same : (led_to from a b, is) ≡ r = same_value {Fault = GeometryFault} (led_to from a b, is) r p.1 in
    let to : led_to from a b ≡ r.0 = ap (λ (q : Pt × List ℕ). q.0) same in
    let t : is ≡ r.1 = ap (λ (q : Pt × List ℕ). q.1) same in
    let x : zigzagged ((from.x +ℤ unzigzagged a) -ℤ from.x) ≡ a = ap zigzagged (way_back from.x (unzigzagged a)) ∙ zigzag_back a in
    let y : zigzagged ((from.y +ℤ unzigzagged b) -ℤ from.y) ≡ b = ap zigzagged (way_back from.y (unzigzagged b)) ∙ zigzag_back b in
    let here : a ∷ b ∷ is ≡ step from (led_to from a b) ++ is =
    cells a (zigzagged ((from.x +ℤ unzigzagged a) -ℤ from.x)) (b ∷ is) (zigzagged ((from.y +ℤ unzigzagged b) -ℤ from.y) ∷ is) (sym x)
    (cells b (zigzagged ((from.y +ℤ unzigzagged b) -ℤ from.y)) is is (sym y) refl) in
    let F : Pt × List ℕ → Type 0 = λ q. (a ∷ b ∷ is ≡ step from q.0 ++ q.1) × FitsPt q.0 in
    subst F same (here, p.0)

abbrev read_to : Pt → List ℕ → Read GeometryFault (Pt × List ℕ)
read_to p rest = Ok (p, rest)

pub step_again : (from to : Pt) (rest : List ℕ) → FitsPt to → step_at from (step from to ++ rest) ≡ Ok (to, rest)
unfolding led_to
step_again from to rest h =
    let x : from.x +ℤ unzigzagged (zigzagged (to.x -ℤ from.x)) ≡ to.x = ap (λ (d : ℤ). from.x +ℤ d) (unzigzag_back (to.x -ℤ from.x)) ∙ way_there from.x to.x in
    let y : from.y +ℤ unzigzagged (zigzagged (to.y -ℤ from.y)) ≡ to.y = ap (λ (d : ℤ). from.y +ℤ d) (unzigzag_back (to.y -ℤ from.y)) ∙ way_there from.y to.y in
    let there : led_to from (zigzagged (to.x -ℤ from.x)) (zigzagged (to.y -ℤ from.y)) ≡ to =
    point (from.x +ℤ unzigzagged (zigzagged (to.x -ℤ from.x))) (from.y +ℤ unzigzagged (zigzagged (to.y -ℤ from.y))) to.x to.y x y in
    let F : Pt → Type 0 = λ p. cond (fits p) (Ok (p, rest)) (Err Cursor) ≡ read_to to rest in
    step_cons from (zigzagged (to.x -ℤ from.x)) (zigzagged (to.y -ℤ from.y)) rest ∙ subst F (sym there) (rw h refl)
  where
    point : (a b u v : ℤ) → a ≡ u → b ≡ v → ◌≡◌ {A = Pt} (record { x = a; y = b }) (record { x = u; y = v })
    point a b u v x y = cc

-- points that were read
pub record Walked (n : ℕ) (before : List Pt) (from : Pt) (ints : List ℕ) (w : Walk) : Type 0 where
  pub points : List Pt
  pub all : w.0 ≡ before ++ points
  pub count : length points ≡ n
  pub spelled : ints ≡ steps from points ++ w.2
  pub last : w.1 ≡ last_of from points
  pub fits : AllByRecursion FitsPt points

-- a first point, and the others behind it
pub walk_first : (n : ℕ) (before : List Pt) (from : Pt) (ints : List ℕ)
    → walk_at (suc n) before from ints ≡ (step_at from ints >>= λ s. walk_at n (before ++ s.0 ∷ []) s.0 s.1)
unfolding repeated
walk_first n before from ints = go (step_at from ints)
  where
    go : (read : Read GeometryFault (Pt × List ℕ)) → ((read >>= λ s. Ok (before ++ s.0 ∷ [], s.0, s.1)) >>= repeated walk_step n)
        ≡ (read >>= λ s. walk_at n (before ++ s.0 ∷ []) s.0 s.1)
    go (Ok s) = refl
    go (Err d) = refl

-- the first point alone
pub walk_one : {X : Type 0} (view : X → Pt × List ℕ) (r : Result X GeometryFault) (from : Pt) (ints : List ℕ) → Reads view r (step_at from ints)
    → Reads (λ x. ((view x).0 ∷ [], (view x).0, (view x).1)) r (walk_at 1 [] from ints)
unfolding repeated
walk_one view (Ok x) from ints e = walk_first 0 [] from ints ∙ then_on (step_at from ints) (λ s. walk_at 0 (s.0 ∷ []) s.0 s.1) (view x) e
walk_one view (Err d) from ints e = walk_first 0 [] from ints ∙ then_stop (step_at from ints) (λ s. walk_at 0 (s.0 ∷ []) s.0 s.1) d e

pub walk_found : (n : ℕ) (before : List Pt) (from : Pt) (ints : List ℕ) (w : Walk) → walk_at n before from ints ≡ Ok w → Walked n before from ints w
unfolding repeated
walk_found zero before from ints w e =
    let same = same_value {Fault = GeometryFault} (before, from, ints) w e in
    let F : Walk → Type 0 = λ q. Walked zero before from ints q in
    subst F same (record { points = []; all = sym (append-nil before); count = refl; spelled = refl; last = refl; fits = tt })
walk_found (suc n) before from ints w e =
    let s = then_ok (step_at from ints) (λ s. walk_at n (before ++ s.0 ∷ []) s.0 s.1) w (sym (walk_first n before from ints) ∙ e) in
    let one = step_found from ints s.0 s.1 in
    let more = walk_found n (before ++ s.0.0 ∷ []) s.0.0 s.0.1 w s.2 in
    record {
      points = s.0.0 ∷ more.points;
      all = more.all ∙ append_assoc before (s.0.0 ∷ []) more.points;
      count = ap suc more.count;
      spelled = one.0 ∙ ap (λ (t : List ℕ). step from s.0.0 ++ t) more.spelled;
      last = more.last;
      fits = (one.1, more.fits);
    }

abbrev walked : Pt → List ℕ → List Pt → Read GeometryFault Walk
walked to rest ps = Ok (ps, to, rest)

pub walk_again : (ps : List Pt) (before : List Pt) (from : Pt) (rest : List ℕ) → AllByRecursion FitsPt ps
    → walk_at (length ps) before from (steps from ps ++ rest) ≡ Ok (before ++ ps, last_of from ps, rest)
unfolding repeated
walk_again [] before from rest h = ap (walked from rest) (sym (append-nil before))
walk_again (p ∷ ps) before from rest h =
    let one = step_again from p (steps p ps ++ rest) h.0 in
    let more = walk_again ps (before ++ p ∷ []) p rest h.1 in
    let regrouped : steps from (p ∷ ps) ++ rest ≡ step from p ++ (steps p ps ++ rest) = append_assoc (step from p) (steps p ps) rest in
    let next : Pt × List ℕ → Read GeometryFault Walk = λ s. walk_at (length ps) (before ++ s.0 ∷ []) s.0 s.1 in
    let first = walk_first (length ps) before from (step from p ++ (steps p ps ++ rest)) in
    ap (walk_at (suc (length ps)) before from) regrouped
    ∙ (first ∙ (then_on (step_at from (step from p ++ (steps p ps ++ rest))) next (p, steps p ps ++ rest) one
    ∙ (more ∙ ap (walked (last_of p ps) rest) (append_assoc before (p ∷ []) ps))))

-- ---- lines

pub close_found : (closed : Bool) (ints rest : List ℕ) → close_at closed ints ≡ Ok rest → ints ≡ close_spelled closed ++ rest
unfolding close_at
close_found true ints rest e =
    let c = then_ok (command_at 7 ints) (λ c. cond (eqb c.0 1) (Ok c.1) (Err Count)) rest e in
    let p = pass_ok (eqb c.0.0 1) Count (Ok c.0.1) rest c.2 in
    let n = eqb-true c.0.0 1 p.0 in
    let t = same_value {Fault = GeometryFault} c.0.1 rest p.1 in
    command_found 7 ints c.0 c.1 ∙ cells (command 7 c.0.0) (command 7 1) c.0.1 rest (ap (command 7) n) t
close_found false ints rest e = same_value {Fault = GeometryFault} ints rest e

pub close_again : (closed : Bool) (rest : List ℕ) → close_at closed (close_spelled closed ++ rest) ≡ Ok rest
unfolding close_at
close_again true rest = ap (λ (r : Read GeometryFault (ℕ × List ℕ)). r >>= λ c. cond (eqb c.0 1) (Ok c.1) (Err Count)) (command_again 7 1 rest (omega arith))
close_again false rest = refl

-- a line that was read
pub record LineRead (closed : Bool) (from : Pt) (ints : List ℕ) (w : Walk) : Type 0 where
  pub spelled : ints ≡ line_spelled closed from w.0 ++ w.2
  pub last : w.1 ≡ last_of from w.0
  pub line : IsLine closed w.0

whole : (ints m f c a rest ways close : List ℕ) (u v j k : ℕ) → ints ≡ command 1 1 ∷ m → m ≡ u ∷ v ∷ f → f ≡ j ∷ c → j ≡ k → c ≡ ways ++ a → a ≡ close ++ rest
    → (ways ++ close) ++ rest ≡ ways ++ (close ++ rest) → ints ≡ command 1 1 ∷ u ∷ v ∷ k ∷ ((ways ++ close) ++ rest)
whole ints m f c a rest ways close u v j k e1 e2 e3 e4 e5 e6 e7 = cc

line_parts : (closed : Bool) (from first to : Pt) (ints m f c a rest : List ℕ) (ps qs l : List Pt) (n : ℕ) → ints ≡ command 1 1 ∷ m → length ps ≡ 1
    → m ≡ steps from ps ++ f → first ≡ last_of from ps → f ≡ command 2 n ∷ c → length qs ≡ n → c ≡ steps first qs ++ a → a ≡ close_spelled closed ++ rest
    → to ≡ last_of first qs → l ≡ ps ++ qs → least closed ≤ n → AllByRecursion FitsPt ps → AllByRecursion FitsPt qs → LineRead closed from ints (l, to, rest)
unfolding line_spelled
line_parts closed from first to ints m f c a rest [] qs l n e1 one e2 e3 e4 e5 e6 e7 e8 e9 long fp fq = absurd (omega arith)
line_parts closed from first to ints m f c a rest (p ∷ q ∷ ps) qs l n e1 one e2 e3 e4 e5 e6 e7 e8 e9 long fp fq = absurd (omega arith)
line_parts closed from first to ints m f c a rest (p ∷ []) qs l n e1 one e2 e3 e4 e5 e6 e7 e8 e9 long fp fq =
    let F : List Pt → Type 0 = λ k. LineRead closed from ints (k, to, rest) in
    let h = append_assoc (steps p qs) (close_spelled closed) rest in
    subst F (sym e9) (record {
      spelled = whole ints m f c a rest (steps p qs) (close_spelled closed) (zigzagged (p.x -ℤ from.x)) (zigzagged (p.y -ℤ from.y)) (command 2 n)
          (command 2 (length qs)) e1 e2 e4 (ap (command 2) (sym e5)) (e6 ∙ ap (λ (k : Pt). steps k qs ++ a) e3) e7 h;
      last = cc;
      line = record { long = omega (arith, e5, long); fits = (fp.0, fq) };
    })

pub line_found : (closed : Bool) (from : Pt) (ints : List ℕ) (w : Walk) → line_at closed from ints ≡ Ok w → LineRead closed from ints w
unfolding line_at line_second line_others
line_found closed from ints w e =
    let m = then_ok (command_at 1 ints) (line_first closed from) w e in
    let one = pass_ok (eqb m.0.0 1) Count (walk_at 1 [] from m.0.1 >>= line_second closed) w m.2 in
    let first = then_ok (walk_at 1 [] from m.0.1) (line_second closed) w one.1 in
    let c = then_ok (command_at 2 first.0.2) (line_others closed first.0) w first.2 in
    let long = guard_ok (ltb c.0.0 (least closed)) Count (walk_at c.0.0 first.0.0 first.0.1 c.0.1 >>= line_end closed) w c.2 in
    let all = then_ok (walk_at c.0.0 first.0.0 first.0.1 c.0.1) (line_end closed) w long.1 in
    let rest = then_ok (close_at closed all.0.2) (line_made all.0) w all.2 in
    let made = same_value {Fault = GeometryFault} (all.0.0, all.0.1, rest.0) w rest.2 in
    let p = walk_found 1 [] from m.0.1 first.0 first.1 in
    let q = walk_found c.0.0 first.0.0 first.0.1 c.0.1 all.0 all.1 in
    let F : Walk → Type 0 = λ k. LineRead closed from ints k in
    subst F made (line_parts closed from first.0.1 all.0.1 ints m.0.1 first.0.2 c.0.1 all.0.2 rest.0 p.points q.points all.0.0 c.0.0
    (command_found 1 ints m.0 m.1 ∙ ap (λ (k : ℕ). command 1 k ∷ m.0.1) (eqb-true m.0.0 1 one.0))
    p.count p.spelled p.last (command_found 2 first.0.2 c.0 c.1) q.count q.spelled (close_found closed all.0.2 rest.0 rest.1) q.last
    (q.all ∙ ap (λ (k : List Pt). k ++ q.points) p.all) (ltb-false c.0.0 (least closed) long.0) p.fits q.fits)

-- a line in front of other integers, with its parts to the right
line_regrouped : (closed : Bool) (from p : Pt) (ps : List Pt) (rest : List ℕ)
    → line_spelled closed from (p ∷ ps) ++ rest
    ≡ command 1 1 ∷ (steps from (p ∷ []) ++ (command 2 (length ps) ∷ (steps p ps ++ (close_spelled closed ++ rest))))
unfolding line_spelled
line_regrouped closed from p ps rest =
    ap (λ (t : List ℕ). command 1 1 ∷ zigzagged (p.x -ℤ from.x) ∷ zigzagged (p.y -ℤ from.y) ∷ command 2 (length ps) ∷ t)
    (append_assoc (steps p ps) (close_spelled closed) rest)

pub line_again : (closed : Bool) (from : Pt) (l : List Pt) (rest : List ℕ) → IsLine closed l
    → line_at closed from (line_spelled closed from l ++ rest) ≡ Ok (l, last_of from l, rest)
unfolding line_at line_second line_others
line_again closed from [] rest h = absurd (omega (arith, h.long))
line_again closed from (p ∷ ps) rest h =
    let end : List ℕ = close_spelled closed ++ rest in
    let behind : List ℕ = command 2 (length ps) ∷ (steps p ps ++ end) in
    let e1 = command_again 1 1 (steps from (p ∷ []) ++ behind) (omega arith) in
    let e2 = walk_again (p ∷ []) [] from behind (h.fits.0, tt) in
    let e3 = command_again 2 (length ps) (steps p ps ++ end) (omega arith) in
    let long : ltb (length ps) (least closed) ≡ false = le-ltb (length ps) (least closed) (omega (arith, h.long)) in
    let e4 = walk_again ps (p ∷ []) p end h.fits.1 in
    let e5 = close_again closed rest in
    ap (line_at closed from) (line_regrouped closed from p ps rest) ∙ (
    ap (λ (r : Read GeometryFault (ℕ × List ℕ)). r >>= line_first closed from) e1 ∙ (
    ap (λ (r : Read GeometryFault Walk). r >>= line_second closed) e2 ∙ (
    ap (λ (r : Read GeometryFault (ℕ × List ℕ)). r >>= line_others closed (p ∷ [], p, behind)) e3 ∙ (
    rw long (
    ap (λ (r : Read GeometryFault Walk). r >>= line_end closed) e4 ∙
    ap (λ (r : Read GeometryFault (List ℕ)). r >>= line_made (p ∷ ps, last_of p ps, end)) e5)))))

pub line_longer : (closed : Bool) (from : Pt) (l : List Pt) (rest : List ℕ) → IsLine closed l → length rest < length (line_spelled closed from l ++ rest)
unfolding line_spelled
line_longer closed from [] rest h = absurd (omega (arith, h.long))
line_longer closed from (p ∷ ps) rest h = omega (arith, length-append (steps p ps ++ close_spelled closed) rest)

-- lines that were read
pub record LinesRead (closed : Bool) (before : List (List Pt)) (from : Pt) (ints : List ℕ) (all : List (List Pt)) : Type 0 where
  pub lines : List (List Pt)
  pub all_is : all ≡ before ++ lines
  pub spelled : ints ≡ lines_spelled closed from lines
  pub each : AllByRecursion (IsLine closed) lines

pub lines_found : (n : ℕ) (closed : Bool) (before : List (List Pt)) (from : Pt) (ints : List ℕ) (all : List (List Pt)) → length ints ≤ n
    → lines_in n closed before from ints ≡ Ok all → LinesRead closed before from ints all
unfolding lines_in lines_spelled
lines_found zero closed before from (i ∷ is) all le e = absurd (omega arith)
lines_found zero closed before from [] all le e =
    record { lines = []; all_is = sym (same_value {Fault = GeometryFault} before all e) ∙ sym (append-nil before); spelled = refl; each = tt }
lines_found (suc n) closed before from [] all le e =
    record { lines = []; all_is = sym (same_value {Fault = GeometryFault} before all e) ∙ sym (append-nil before); spelled = refl; each = tt }
lines_found (suc n) closed before from (i ∷ is) all le e =
    let l = then_ok (line_at closed from (i ∷ is)) (λ l. lines_in n closed (before ++ l.0 ∷ []) l.1 l.2) all e in
    let one = line_found closed from (i ∷ is) l.0 l.1 in
    let short = line_longer closed from l.0.0 l.0.2 one.line in
    let more = lines_found n closed (before ++ l.0.0 ∷ []) l.0.1 l.0.2 all (omega (arith, short, ap length one.spelled)) l.2 in
    record {
      lines = l.0.0 ∷ more.lines;
      all_is = more.all_is ∙ append_assoc before (l.0.0 ∷ []) more.lines;
      spelled = one.spelled ∙ ap (λ (t : List ℕ). line_spelled closed from l.0.0 ++ t)
          (more.spelled ∙ ap (λ (p : Pt). lines_spelled closed p more.lines) one.last);
      each = (one.line, more.each);
    }

lines_first : (n : ℕ) (closed : Bool) (before : List (List Pt)) (from : Pt) (ints : List ℕ) (w : Walk) → length w.2 < length ints
    → line_at closed from ints ≡ Ok w → length ints ≤ suc n → lines_in (suc n) closed before from ints ≡ lines_in n closed (before ++ w.0 ∷ []) w.1 w.2
unfolding lines_in
lines_first n closed before from [] w some e le = absurd (omega arith)
lines_first n closed before from (i ∷ is) w some e le = rw e refl

pub lines_again : (ls : List (List Pt)) (n : ℕ) (closed : Bool) (before : List (List Pt)) (from : Pt) → length (lines_spelled closed from ls) ≤ n
    → AllByRecursion (IsLine closed) ls → lines_in n closed before from (lines_spelled closed from ls) ≡ Ok (before ++ ls)
unfolding lines_in lines_spelled
lines_again [] zero closed before from le h = ap (done {Fault = GeometryFault}) (sym (append-nil before))
lines_again [] (suc n) closed before from le h = ap (done {Fault = GeometryFault}) (sym (append-nil before))
lines_again (l ∷ ls) zero closed before from le h =
    absurd (omega (arith, line_longer closed from l (lines_spelled closed (last_of from l) ls) h.0, le))
lines_again (l ∷ ls) (suc n) closed before from le h =
    let rest : List ℕ = lines_spelled closed (last_of from l) ls in
    let longer = line_longer closed from l rest h.0 in
    let one = lines_first n closed before from (line_spelled closed from l ++ rest) (l, last_of from l, rest) longer (line_again closed from l rest h.0) le in
    one ∙ (lines_again ls n closed (before ++ l ∷ []) (last_of from l) (omega (arith, longer, le)) h.1
    ∙ ap (done {Fault = GeometryFault}) (append_assoc before (l ∷ []) ls))

-- so many at most makes no difference where the integers are no more
pub lines_same : (m n : ℕ) (closed : Bool) (before : List (List Pt)) (from : Pt) (ints : List ℕ) → length ints ≤ m → length ints ≤ n
    → lines_in m closed before from ints ≡ lines_in n closed before from ints
unfolding lines_in
lines_same zero zero closed before from ints hm hn = refl
lines_same zero (suc n) closed before from [] hm hn = refl
lines_same zero (suc n) closed before from (i ∷ is) hm hn = absurd (omega arith)
lines_same (suc m) zero closed before from [] hm hn = refl
lines_same (suc m) zero closed before from (i ∷ is) hm hn = absurd (omega arith)
lines_same (suc m) (suc n) closed before from [] hm hn = refl
lines_same (suc m) (suc n) closed before from (i ∷ is) hm hn =
    then_same (line_at closed from (i ∷ is)) (λ l. lines_in m closed (before ++ l.0 ∷ []) l.1 l.2) (λ l. lines_in n closed (before ++ l.0 ∷ []) l.1 l.2)
    (λ l e. let one = line_found closed from (i ∷ is) l e in
    let short = line_longer closed from l.0 l.2 one.line in
    let less : length l.2 ≤ length is = omega (arith, short, ap length one.spelled) in
    lines_same m n closed (before ++ l.0 ∷ []) l.1 l.2 (omega arith) (omega arith))

-- ---- the loop over lines

pub line_shorter : (closed : Bool) (from : Pt) (ints : List ℕ) (w : Walk) → line_at closed from ints ≡ Ok w → length w.2 < length ints
line_shorter closed from ints w e = let one = line_found closed from ints w e in omega (arith, line_longer closed from w.0 w.2 one.line, ap length one.spelled)

pub lines_on : (closed : Bool) (before : List (List Pt)) (from : Pt) (ints : List ℕ) (w : Walk) (so_far : Read GeometryFault (List (List Pt)))
    → line_at closed from ints ≡ Ok w → lines_in (length ints) closed before from ints ≡ so_far
    → lines_in (length w.2) closed (before ++ w.0 ∷ []) w.1 w.2 ≡ so_far
lines_on closed before from ints w so_far e so =
    let short = line_shorter closed from ints w e in
    let k : length ints ≡ suc (length ints - 1) = omega arith in
    let one : lines_in (length ints) closed before from ints ≡ lines_in (length ints - 1) closed (before ++ w.0 ∷ []) w.1 w.2 =
    ap (λ (n : ℕ). lines_in n closed before from ints) k ∙ lines_first (length ints - 1) closed before from ints w short e (omega arith) in
    lines_same (length w.2) (length ints - 1) closed (before ++ w.0 ∷ []) w.1 w.2 (omega arith) (omega arith) ∙ (sym one ∙ so)

pub lines_fault : (closed : Bool) (before : List (List Pt)) (from : Pt) (ints : List ℕ) (so_far : Read GeometryFault (List (List Pt))) → 0 < length ints
    → lines_in (length ints) closed before from ints ≡ so_far
    → (d : GeometryFault) → line_at closed from ints ≡ Err d → so_far ≡ Err d
unfolding lines_in
lines_fault closed before from [] so_far some so d e = absurd (omega arith)
lines_fault closed before from (i ∷ is) so_far some so d e = sym so ∙ rw e refl

pub lines_done : (closed : Bool) (before : List (List Pt)) (from : Pt) (ints : List ℕ) (so_far : Read GeometryFault (List (List Pt))) → length ints ≡ 0
    → lines_in (length ints) closed before from ints ≡ so_far → so_far ≡ Ok before
unfolding lines_in
lines_done closed before from [] so_far none so = sym so
lines_done closed before from (i ∷ is) so_far none so = absurd (omega arith)
