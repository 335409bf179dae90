-- Decoding a shape from left to right, with the first fault.
use Rattle.std.specs.Prelude.{ℕ, zero, suc, ◌/◌, ◌%◌, ◌==◌, Bool, true, false, List, [], ◌∷◌, ◌++◌, length, drop, slice_index, Ok, Err, nat_lt}
use Rattle.std.specs.Prelude.{if◌then◌else◌}
use Rattle.reader.specs.Reading.{Read, ◌>>=◌, repeated}
use Rattle.geometry_commands.specs.declared.point.Pt.{Pt}
use Rattle.geometry_commands.specs.declared.decoding.GeometryFault.{GeometryFault}
use Rattle.geometry_commands.specs.declared.decoding.GeometryFault.TheVariants.{Command, Count, Cut, Cursor}
use Rattle.geometry_commands.specs.declared.kinds.ShapeKind.{ShapeKind}
use Rattle.geometry_commands.specs.declared.kinds.ShapeKind.TheVariants as kinds
use Rattle.geometry_commands.specs.Commands.{move_to, line_to, close_path, origin}
use Rattle.geometry_commands.specs.Ways.{led_to, fits}
use Rattle.geometry_commands.specs.Shapes.{ShapeView, points, lines, rings, raw, least}

-- points, the cursor after them, and the integers that remain
abbrev pub Walk : Type 0
Walk = List Pt × Pt × List ℕ

-- the count of a command with this number
unfoldable pub command_at : ℕ → List ℕ → Read GeometryFault (ℕ × List ℕ)
command_at id ints =
    if length ints == 0 then Err Cut
    else (if slice_index ints 0 % 8 == id then Ok (slice_index ints 0 / 8, drop 1 ints) else Err Command)

-- the point to which the next two integers lead
unfoldable pub step_at : Pt → List ℕ → Read GeometryFault (Pt × List ℕ)
step_at from ints =
    if nat_lt (length ints) 2 then Err Cut
    else (if fits (led_to from (slice_index ints 0) (slice_index ints 1)) then Ok (led_to from (slice_index ints 0) (slice_index ints 1), drop 2 ints)
    else Err Cursor)

-- one point more
abbrev pub walk_step : Walk → Read GeometryFault Walk
walk_step w = step_at w.1 w.2 >>= λ s. Ok (w.0 ++ s.0 ∷ [], s.0, s.1)

-- this count of points after those that were read
abbrev pub walk_at : ℕ → List Pt → Pt → List ℕ → Read GeometryFault Walk
walk_at count before from ints = repeated walk_step count (before, from, ints)

unfoldable pub close_at : Bool → List ℕ → Read GeometryFault (List ℕ)
close_at true ints = command_at close_path ints >>= λ c. if c.0 == 1 then Ok c.1 else Err Count
close_at false ints = Ok ints

abbrev pub line_made : Walk → List ℕ → Read GeometryFault Walk
line_made all rest = Ok (all.0, all.1, rest)

abbrev pub line_end : Bool → Walk → Read GeometryFault Walk
line_end closed all = close_at closed all.2 >>= line_made all

-- after the first point and a count
unfoldable pub line_others : Bool → Walk → ℕ × List ℕ → Read GeometryFault Walk
line_others closed first c = if nat_lt c.0 (least closed) then Err Count else (walk_at c.0 first.0 first.1 c.1 >>= line_end closed)

-- after the first point
unfoldable pub line_second : Bool → Walk → Read GeometryFault Walk
line_second closed first = command_at line_to first.2 >>= line_others closed first

-- after a MoveTo with this count
abbrev pub line_first : Bool → Pt → ℕ × List ℕ → Read GeometryFault Walk
line_first closed from m = if m.0 == 1 then (walk_at 1 [] from m.1 >>= line_second closed) else Err Count

unfoldable pub line_at : Bool → Pt → List ℕ → Read GeometryFault Walk
line_at closed from ints = command_at move_to ints >>= line_first closed from

-- the lines after those that were read, at most the given count
unfoldable pub lines_in : ℕ → Bool → List (List Pt) → Pt → List ℕ → Read GeometryFault (List (List Pt))
lines_in zero closed before from ints = Ok before
lines_in (suc more) closed before from [] = Ok before
lines_in (suc more) closed before from (i ∷ is) = line_at closed from (i ∷ is) >>= λ l. lines_in more closed (before ++ l.0 ∷ []) l.1 l.2

abbrev pub lines_at : Bool → List ℕ → Read GeometryFault (List (List Pt))
lines_at closed ints = lines_in (length ints) closed [] origin ints

-- no integers may follow the points
unfoldable pub points_end : Walk → Read GeometryFault (List Pt)
points_end w = if length w.2 == 0 then Ok w.0 else Err Command

unfoldable pub points_behind : ℕ × List ℕ → Read GeometryFault (List Pt)
points_behind c = if c.0 == 0 then Err Count else (walk_at c.0 [] origin c.1 >>= points_end)

unfoldable pub points_at : List ℕ → Read GeometryFault (List Pt)
points_at ints = if length ints == 0 then Ok [] else (command_at move_to ints >>= points_behind)

unfoldable pub shape_at : ShapeKind → List ℕ → Read GeometryFault ShapeView
shape_at kinds.Points ints = points_at ints >>= λ ps. Ok (points ps)
shape_at kinds.Lines ints = lines_at false ints >>= λ ls. Ok (lines ls)
shape_at kinds.Polygons ints = lines_at true ints >>= λ ls. Ok (rings ls)
shape_at kinds.Unknown ints = Ok (raw ints)
