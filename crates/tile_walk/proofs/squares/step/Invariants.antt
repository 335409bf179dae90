use Rattle.std.proofs.Common.{◌≡◌, ◌<◌, ◌≤◌, IfSome}
use Rattle.tile_walk.specs.Cut.{IsCutOfLast}
use Rattle.tile_walk.specs.Inside.{ahead_of}
use Rattle.tile_walk.specs.Squares.{left_of}
use Rattle.tile_walk.specs.declared.step.TheConstants.{STEP_BOXES}
use Rattle.tile_walk.proofs.squares.step.Given as goal

-- no tile was passed over, and after a square the number has fallen
abbrev pub invariant-loop-room : goal.invariant-loop-room
invariant-loop-room l = record {
  cut : IfSome l.cut (IsCutOfLast l.squares.items);
  left : left_of l.squares.items ≡ left_of l.initial.squares.items;
  ahead : ahead_of l.squares.items l.cut ≤ ahead_of l.initial.squares.items l.initial.cut;
  further : l.room < STEP_BOXES → ahead_of l.squares.items l.cut < ahead_of l.initial.squares.items l.initial.cut;
}

abbrev pub decreases-loop-room : goal.decreases-loop-room
decreases-loop-room l = l.room
