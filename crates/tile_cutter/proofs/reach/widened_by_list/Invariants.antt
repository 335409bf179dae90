use Rattle.std.proofs.Common.{◌≡◌, drop}
use Rattle.tile_cutter.specs.Widened.{bounds_after}
use Rattle.tile_cutter.proofs.reach.widened_by_list.Given as goal

-- the box so far, and of what is left
abbrev pub invariant-loop-point : goal.invariant-loop-point
invariant-loop-point l = bounds_after l.bounds (drop l.point-index l.points) ≡ bounds_after l.initial.bounds l.points
