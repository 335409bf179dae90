-- Which shape integers are: the integers as a function of the shape.
use Rattle.std.specs.Prelude.{◌≡◌, ℕ, ◌<◌, Bool, true, false, List, [], ◌∷◌, ◌++◌, length, map}
use Rattle.std.specs.List.{AllByRecursion}
use Rattle.geometry_commands.specs.declared.point.Pt.{Pt}
use Rattle.geometry_commands.specs.declared.kinds.Shape.{Shape}
use Rattle.geometry_commands.specs.declared.kinds.Shape.TheVariants as shapes
use Rattle.geometry_commands.specs.declared.kinds.ShapeKind.{ShapeKind}
use Rattle.geometry_commands.specs.declared.kinds.ShapeKind.TheVariants as kinds
use Rattle.geometry_commands.specs.Commands.{step, steps, command, move_to, line_to, close_path, points_spelled, origin}
use Rattle.geometry_commands.specs.Ways.{FitsPt}

-- a shape without where it lies in memory
pub data ShapeView : Type 0 where
  points : List Pt → ShapeView
  lines : List (List Pt) → ShapeView
  rings : List (List Pt) → ShapeView
  raw : List ℕ → ShapeView

abbrev pub shape_view : Shape → ShapeView
shape_view (shapes.Points v) = points v.items
shape_view (shapes.Lines v) = lines (map (λ l. l.items) v.items)
shape_view (shapes.Rings v) = rings (map (λ l. l.items) v.items)
shape_view (shapes.Raw v) = raw v.items

-- where a way along points ends
abbrev pub last_of : Pt → List Pt → Pt
last_of p [] = p
last_of p (q ∷ qs) = last_of q qs

abbrev pub close_spelled : Bool → List ℕ
close_spelled true = command close_path 1 ∷ []
close_spelled false = []

-- a line, or a ring, which is closed: a move to its first point, and the way along the others
unfoldable pub line_spelled : Bool → Pt → List Pt → List ℕ
line_spelled closed from [] = []
line_spelled closed from (p ∷ ps) = command move_to 1 ∷ (step from p ++ (command line_to (length ps) ∷ (steps p ps ++ close_spelled closed)))

-- each from where the one before it ends
unfoldable pub lines_spelled : Bool → Pt → List (List Pt) → List ℕ
lines_spelled closed from [] = []
lines_spelled closed from (l ∷ ls) = line_spelled closed from l ++ lines_spelled closed (last_of from l) ls

-- the least count of points after the first
abbrev pub least : Bool → ℕ
least true = 2
least false = 1

pub record IsLine (closed : Bool) (l : List Pt) : Type 0 where
  pub long : least closed < length l
  pub fits : AllByRecursion FitsPt l

-- the integers encode the shape, which is of this kind
abbrev pub IsShape : ShapeKind → List ℕ → ShapeView → Type 0
IsShape kinds.Points ints (points ps) = (ints ≡ points_spelled ps) × AllByRecursion FitsPt ps
IsShape kinds.Lines ints (lines ls) = (ints ≡ lines_spelled false origin ls) × AllByRecursion (IsLine false) ls
IsShape kinds.Polygons ints (rings ls) = (ints ≡ lines_spelled true origin ls) × AllByRecursion (IsLine true) ls
IsShape kinds.Unknown ints (raw ns) = ints ≡ ns
IsShape kind ints s = ⊥

-- the kind of a shape
abbrev pub kind_of : ShapeView → ShapeKind
kind_of (points ps) = kinds.Points
kind_of (lines ls) = kinds.Lines
kind_of (rings ls) = kinds.Polygons
kind_of (raw ns) = kinds.Unknown

-- the integers of a shape
abbrev pub shape_spelled : ShapeView → List ℕ
shape_spelled (points ps) = points_spelled ps
shape_spelled (lines ls) = lines_spelled false origin ls
shape_spelled (rings ls) = lines_spelled true origin ls
shape_spelled (raw ns) = ns
