-- The integers of a shape that can be spelled have 32 bits.
use Rattle.std.proofs.Common.{ℕ, ℤ, pos, negsuc, ◌^◌, ◌<◌, ◌-ℤ◌, Bool, true, false, List, [], ◌∷◌, ◌++◌, length, arith}
use Rattle.std.specs.Prelude.{All}
use Rattle.std.proofs.lemmas.Int.{ints}
use Rattle.std.proofs.lemmas.List.Elements.{All-nil, All-cons, All-append}
use Rattle.pb_wire.specs.Zigzag.{zigzagged}
use Rattle.geometry_commands.specs.declared.point.Pt.{Pt}
use Rattle.geometry_commands.specs.Commands.{origin, step, steps, command, move_to, line_to, IsShort, IsNear, AreNear, points_spelled}
use Rattle.geometry_commands.specs.Encodable.{CanSpellPoints, CanSpellLine, CanSpellLines, CanSpell}
use Rattle.geometry_commands.specs.Shapes.{ShapeView, points, lines, rings, raw, last_of, close_spelled, line_spelled, lines_spelled, shape_spelled}

-- a number of 32 bits
abbrev IsSmall : ℕ → Type 0
IsSmall n = n < 2 ^ 32

short_is_small : (d : ℤ) → IsShort d → zigzagged d < 2 ^ 32
short_is_small (pos n) short = omega (arith, ints, short.0, short.1)
short_is_small (negsuc n) short = omega (arith, ints, short.0, short.1)

step_small : (p q : Pt) (rest : List ℕ) → IsNear p q → All IsSmall rest → All IsSmall (step p q ++ rest)
step_small p q rest near all =
    let across = zigzagged (q.x -ℤ p.x) in
    let down = zigzagged (q.y -ℤ p.y) in
    All-cons IsSmall across (down ∷ rest) (short_is_small (q.x -ℤ p.x) near.0) (All-cons IsSmall down rest (short_is_small (q.y -ℤ p.y) near.1) all)

steps_small : (p : Pt) (qs : List Pt) → AreNear p qs → All IsSmall (steps p qs)
steps_small p [] near = All-nil IsSmall
steps_small p (q ∷ qs) near = step_small p q (steps q qs) near.0 (steps_small q qs near.1)

close_small : (closed : Bool) → All IsSmall (close_spelled closed)
close_small true = All-cons IsSmall 15 [] (omega arith) (All-nil IsSmall)
close_small false = All-nil IsSmall

line_small : (closed : Bool) (from : Pt) (l : List Pt) → CanSpellLine closed from l → All IsSmall (line_spelled closed from l)
unfolding line_spelled
line_small closed from [] can = All-nil IsSmall
line_small closed from (p ∷ ps) can =
    let way = steps p ps ++ close_spelled closed in
    let way_small = All-append IsSmall (steps p ps) (close_spelled closed) (steps_small p ps can.near.1) (close_small closed) in
    let drawn = command line_to (length ps) ∷ way in
    let drawn_small = All-cons IsSmall (command line_to (length ps)) way (omega (arith, can.few)) way_small in
    All-cons IsSmall (command move_to 1) (step from p ++ drawn) (omega arith) (step_small from p drawn can.near.0 drawn_small)

lines_small : (closed : Bool) (from : Pt) (ls : List (List Pt)) → CanSpellLines closed from ls → All IsSmall (lines_spelled closed from ls)
unfolding lines_spelled
lines_small closed from [] can = All-nil IsSmall
lines_small closed from (l ∷ ls) can =
    All-append IsSmall (line_spelled closed from l) (lines_spelled closed (last_of from l) ls)
    (line_small closed from l can.0) (lines_small closed (last_of from l) ls can.1)

points_small : (ps : List Pt) → CanSpellPoints ps → All IsSmall (points_spelled ps)
points_small [] can = All-nil IsSmall
points_small (p ∷ ps) can =
    All-cons IsSmall (command move_to (length (p ∷ ps))) (steps origin (p ∷ ps)) (omega (arith, can.few)) (steps_small origin (p ∷ ps) can.near)

pub integers_small : (s : ShapeView) → CanSpell s → All (λ n. n < 2 ^ 32) (shape_spelled s)
integers_small (points ps) can = points_small ps can
integers_small (lines ls) can = lines_small false origin ls can
integers_small (rings ls) can = lines_small true origin ls can
integers_small (raw ns) can = absurd can
