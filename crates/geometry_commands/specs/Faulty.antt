-- The faults that integers have, each with its place.
use Rattle.std.specs.Prelude.{◌≡◌, ℕ, ◌<◌, ◌%◌, Bool, true, false, List, [], ◌∷◌, ◌++◌, length}
use Rattle.std.specs.List.{AllByRecursion}
use Rattle.geometry_commands.specs.declared.point.Pt.{Pt}
use Rattle.geometry_commands.specs.declared.decoding.GeometryFault.{GeometryFault}
use Rattle.geometry_commands.specs.declared.decoding.GeometryFault.TheVariants as faults
use Rattle.geometry_commands.specs.declared.kinds.ShapeKind.{ShapeKind}
use Rattle.geometry_commands.specs.declared.kinds.ShapeKind.TheVariants as kinds
use Rattle.geometry_commands.specs.Commands.{steps, command, move_to, line_to, close_path, origin}
use Rattle.geometry_commands.specs.Ways.{led_to, FitsPt}
use Rattle.geometry_commands.specs.Shapes.{last_of, lines_spelled, least, IsLine}

-- where a command of this number is needed, the integers end, or there is another
pub data CommandHas (id : ℕ) (ints : List ℕ) (d : GeometryFault) : Type 0 where
  ends : d ≡ faults.Cut → ints ≡ [] → CommandHas id ints d
  other : d ≡ faults.Command → (c : ℕ) → (rest : List ℕ) → ints ≡ c ∷ rest → (c % 8 ≡ id → ⊥) → CommandHas id ints d

-- where a point is needed, there are fewer than two integers, or two that lead too far
pub data StepHas (from : Pt) (ints : List ℕ) (d : GeometryFault) : Type 0 where
  few : d ≡ faults.Cut → length ints < 2 → StepHas from ints d
  far : d ≡ faults.Cursor → (a : ℕ) → (b : ℕ) → (rest : List ℕ) → ints ≡ a ∷ b ∷ rest → (FitsPt (led_to from a b) → ⊥) → StepHas from ints d

-- after fewer points than are needed, one has a fault
pub record WalkHas (count : ℕ) (from : Pt) (ints : List ℕ) (d : GeometryFault) : Type 0 where
  pub points : List Pt
  pub rest : List ℕ
  pub fewer : length points < count
  pub spelled : ints ≡ steps from points ++ rest
  pub fits : AllByRecursion FitsPt points
  pub fault : StepHas (last_of from points) rest d

-- integers that don't begin with a line, or a ring, from where the one before it ends
pub data LineHas (closed : Bool) (from : Pt) (ints : List ℕ) (d : GeometryFault) : Type 0 where
  at_move : CommandHas move_to ints d → LineHas closed from ints d
  move_count : d ≡ faults.Count → (n : ℕ) → (rest : List ℕ) → ints ≡ command move_to n ∷ rest → (n ≡ 1 → ⊥) → LineHas closed from ints d
  at_first : (rest : List ℕ) → ints ≡ command move_to 1 ∷ rest → WalkHas 1 from rest d → LineHas closed from ints d
  at_line : (ps : List Pt) → (rest : List ℕ) → length ps ≡ 1 → ints ≡ command move_to 1 ∷ (steps from ps ++ rest) → CommandHas line_to rest d
      → LineHas closed from ints d
  line_count : d ≡ faults.Count → (ps : List Pt) → (n : ℕ) → (rest : List ℕ) → length ps ≡ 1
      → ints ≡ command move_to 1 ∷ (steps from ps ++ (command line_to n ∷ rest)) → n < least closed → LineHas closed from ints d
  at_others : (ps : List Pt) → (n : ℕ) → (rest : List ℕ) → length ps ≡ 1 → ints ≡ command move_to 1 ∷ (steps from ps ++ (command line_to n ∷ rest))
      → WalkHas n (last_of from ps) rest d → LineHas closed from ints d
  at_close : closed ≡ true → (ps : List Pt) → (qs : List Pt) → (rest : List ℕ) → length ps ≡ 1
      → ints ≡ command move_to 1 ∷ (steps from ps ++ (command line_to (length qs) ∷ (steps (last_of from ps) qs ++ rest))) → CommandHas close_path rest d
      → LineHas closed from ints d
  close_count : d ≡ faults.Count → closed ≡ true → (ps : List Pt) → (qs : List Pt) → (n : ℕ) → (rest : List ℕ) → length ps ≡ 1
      → ints ≡ command move_to 1 ∷ (steps from ps ++ (command line_to (length qs) ∷ (steps (last_of from ps) qs ++ (command close_path n ∷ rest))))
      → (n ≡ 1 → ⊥) → LineHas closed from ints d

-- where the way along lines ends
abbrev pub end_of : Pt → List (List Pt) → Pt
end_of from [] = from
end_of from (l ∷ ls) = end_of (last_of from l) ls

-- after whole lines there are integers that are none
pub record LinesHas (closed : Bool) (from : Pt) (ints : List ℕ) (d : GeometryFault) : Type 0 where
  pub lines : List (List Pt)
  pub rest : List ℕ
  pub spelled : ints ≡ lines_spelled closed from lines ++ rest
  pub each : AllByRecursion (IsLine closed) lines
  pub some : 0 < length rest
  pub fault : LineHas closed (end_of from lines) rest d

pub data PointsHas (ints : List ℕ) (d : GeometryFault) : Type 0 where
  at_points : 0 < length ints → CommandHas move_to ints d → PointsHas ints d
  no_point : d ≡ faults.Count → (rest : List ℕ) → ints ≡ command move_to 0 ∷ rest → PointsHas ints d
  at_ways : (n : ℕ) → (rest : List ℕ) → ints ≡ command move_to n ∷ rest → WalkHas n origin rest d → PointsHas ints d
  behind : d ≡ faults.Command → (ps : List Pt) → (rest : List ℕ) → ints ≡ command move_to (length ps) ∷ (steps origin ps ++ rest) → 0 < length rest
      → PointsHas ints d

-- a fault of integers that are to be a shape of this kind
abbrev pub ShapeHas : ShapeKind → List ℕ → GeometryFault → Type 0
ShapeHas kinds.Unknown ints d = ⊥
ShapeHas kinds.Points ints d = PointsHas ints d
ShapeHas kinds.Lines ints d = LinesHas false origin ints d
ShapeHas kinds.Polygons ints d = LinesHas true origin ints d
