-- Which shapes can be encoded: lists long enough and not too long, and each point near enough to the one before it.
use Rattle.std.specs.Prelude.{◌<◌, ◌^◌, Bool, true, false, List, [], ◌∷◌, length}
use Rattle.std.specs.List.{AllByRecursion}
use Rattle.geometry_commands.specs.declared.point.Pt.{Pt}
use Rattle.geometry_commands.specs.Commands.{AreNear, origin}
use Rattle.geometry_commands.specs.Ways.{FitsPt}
use Rattle.geometry_commands.specs.Shapes.{ShapeView, points, lines, rings, raw, last_of, least}

-- points, from the origin on
pub record CanSpellPoints (ps : List Pt) : Type 0 where
  pub some : 0 < length ps
  pub few : length ps < 2 ^ 29
  pub near : AreNear origin ps

-- a line, or a ring, which is closed, from where the one before it ends
pub record CanSpellLine (closed : Bool) (from : Pt) (l : List Pt) : Type 0 where
  pub long : least closed < length l
  pub few : length l < 2 ^ 29
  pub near : AreNear from l

-- lines, or rings, one after the other; there may be none
abbrev pub CanSpellLines : Bool → Pt → List (List Pt) → Type 0
CanSpellLines closed from [] = Unit {0}
CanSpellLines closed from (l ∷ ls) = CanSpellLine closed from l × CanSpellLines closed (last_of from l) ls

-- a shape; what was read raw is never written
abbrev pub CanSpell : ShapeView → Type 0
CanSpell (points ps) = CanSpellPoints ps
CanSpell (lines ls) = CanSpellLines false origin ls
CanSpell (rings ls) = CanSpellLines true origin ls
CanSpell (raw ns) = ⊥

-- 64 bits hold each coordinate, as they do of every shape that a program has
abbrev pub FitsShape : ShapeView → Type 0
FitsShape (points ps) = AllByRecursion FitsPt ps
FitsShape (lines ls) = AllByRecursion (AllByRecursion FitsPt) ls
FitsShape (rings ls) = AllByRecursion (AllByRecursion FitsPt) ls
FitsShape (raw ns) = Unit {0}
