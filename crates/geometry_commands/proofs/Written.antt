-- What is written, piece by piece.
use Rattle.std.proofs.Common.{◌≡◌, ℕ, suc, ◌+◌, ◌-◌, ◌<◌, ◌≤◌, Bool, List, [], ◌∷◌, ◌++◌, length, map, take, drop, get_or, Vec, Global, refl, sym, ap, subst}
use Rattle.std.proofs.Common.{◌∙◌, append_assoc, add-one, arith}
use Rattle.std.specs.List.{AllByRecursion}
use Rattle.std.proofs.Math.Seq.{drop-cons}
use Rattle.std.proofs.lemmas.List.{append-nil, drop_all, take_all}
use Rattle.geometry_commands.specs.declared.point.Pt.{Pt}
use Rattle.geometry_commands.specs.Commands.{command, step, steps}
use Rattle.geometry_commands.specs.Encodable.{CanSpellLines}
use Rattle.geometry_commands.specs.Shapes.{last_of, close_spelled, line_spelled, lines_spelled, IsLine}

-- a list is its first item and the others
pub split_first : {A : Type 0} (l : List A) (d : A) → 0 < length l → l ≡ get_or l 0 d ∷ take (length l - 1) (drop 1 l)
split_first [] d some = absurd (omega (arith, some))
split_first (x ∷ xs) d some = ap (λ t. x ∷ t) (sym (take_all (suc (length xs) - 1) xs (omega arith)))

-- the pieces of a line are the line
pub line_written : (closed : Bool) (from p : Pt) (ps line : List Pt) (m d : ℕ) (out moved first drawn others : List ℕ) → line ≡ p ∷ ps → m ≡ command 1 1
    → d ≡ command 2 (length ps) → moved ≡ out ++ m ∷ [] → first ≡ moved ++ step from p → drawn ≡ first ++ d ∷ [] → others ≡ drawn ++ steps p ps
    → others ++ close_spelled closed ≡ out ++ line_spelled closed from line
unfolding line_spelled
line_written closed from p ps line m d out moved first drawn others e em ed e1 e2 e3 e4 = rw (e, e4, e3, e2, e1, em, ed) (simp append_assoc)

-- what is left is its first line and the others
pub views_split : (ls : List (Vec Pt Global)) (i : ℕ) (l : Vec Pt Global) → i < length ls → l ≡ get_or ls i l
    → map (λ v. v.items) (drop i ls) ≡ l.items ∷ map (λ v. v.items) (drop (i + 1) ls)
views_split ls i l lt e = rw (drop-cons ls i l lt, ← e, add-one) refl

-- one line more is written
pub lines_on : (closed : Bool) (at to : Pt) (rest next : List (List Pt)) (l : List Pt) (out more whole : List ℕ) → rest ≡ l ∷ next
    → more ≡ out ++ line_spelled closed at l → to ≡ last_of at l → out ++ lines_spelled closed at rest ≡ whole → more ++ lines_spelled closed to next ≡ whole
unfolding lines_spelled
lines_on closed at to rest next l out more whole e em et so_far =
    let one : out ++ lines_spelled closed at rest ≡ more ++ lines_spelled closed to next =
    rw (e, em, et) (sym (append_assoc out (line_spelled closed at l) (lines_spelled closed (last_of at l) next))) in
    sym one ∙ so_far

-- the lines that are left can be spelled
pub can_on : (closed : Bool) (at to : Pt) (rest next : List (List Pt)) (l : List Pt) → rest ≡ l ∷ next → to ≡ last_of at l → CanSpellLines closed at rest
    → CanSpellLines closed to next
can_on closed at to rest next l e et can =
    let F : List (List Pt) → Type 0 = λ r. CanSpellLines closed at r in
    let G : Pt → Type 0 = λ p. CanSpellLines closed p next in
    subst G (sym et) (subst F e can).1

-- the lines so far are whole
pub whole_on : {Q : Type 0} (closed : Bool) (rest next : List (List Pt)) (l : List Pt) → rest ≡ l ∷ next → IsLine closed l
    → (AllByRecursion (IsLine closed) rest → Q) → AllByRecursion (IsLine closed) next → Q
whole_on closed rest next l e line so_far others =
    let F : List (List Pt) → Type 0 = λ r. AllByRecursion (IsLine closed) r in
    so_far (subst F (sym e) (line, others))

-- all lines are written
pub lines_done : (closed : Bool) (at : Pt) (ls : List (Vec Pt Global)) (i : ℕ) (out whole : List ℕ) → length ls ≤ i
    → out ++ lines_spelled closed at (map (λ v. v.items) (drop i ls)) ≡ whole → out ≡ whole
unfolding lines_spelled
lines_done closed at ls i out whole le so_far =
    let none = drop_all i ls le in
    sym (append-nil out) ∙ rw none at so_far
