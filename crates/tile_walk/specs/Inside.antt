-- How a walk is kept.
use Rattle.std.specs.Prelude.{ℕ, ◌-◌, ◌*◌, ◌^◌, List, Option, Some, None, IfSome}
use Rattle.tile_walk.specs.Cut.{IsCutOfLast}
use Rattle.tile_walk.specs.Squares.{left_of, weights}
use Rattle.tile_walk.specs.Walk.{WalkView}
use Rattle.tile_walk.specs.declared.cut.Cut.{Cut}
use Rattle.tile_walk.specs.declared.square.Square.{Square}
use Rattle.tile_walk.specs.declared.walk.Walk.TheInside.{Inside}

-- how many boxes of the last square are placed
abbrev pub placed_of : Option Cut → ℕ
placed_of None = 0
placed_of (Some c) = c.placed

-- a number that falls as squares are cut, and as boxes of the last one are placed
abbrev pub ahead_of : List Square → Option Cut → ℕ
ahead_of ss cut = weights ss * 2 ^ 64 - placed_of cut

-- the tiles of its squares
abbrev pub walk_view : Inside → WalkView
walk_view w = record { left = left_of w.squares.items; ahead = ahead_of w.squares.items w.cut }

-- what is cut is the last square
abbrev pub IsWalk : Inside → Type 0
IsWalk w = IfSome w.cut (IsCutOfLast w.squares.items)
