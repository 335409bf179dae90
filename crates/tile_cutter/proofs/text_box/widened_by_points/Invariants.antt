use Rattle.std.proofs.Common.{◌≡◌}
use Rattle.edit_text.specs.Views.{points_view}
use Rattle.tile_cutter.specs.Widened.{bounds_after}
use Rattle.tile_cutter.proofs.text_box.widened_by_points.Given as goal

-- the box so far, and of what is left
abbrev pub invariant-loop-point : goal.invariant-loop-point
invariant-loop-point l = bounds_after l.bounds (points_view l.point-iterator) ≡ bounds_after l.initial.bounds (points_view l.points)
