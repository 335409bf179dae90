use Rattle.std.proofs.Common.{◌≡◌}
use Rattle.std.specs.Prelude.{◌↔◌}
use Rattle.edit_text.specs.Views.{points_view}
use Rattle.edit_text.proofs.same.are_points.Given as goal

-- those that are left are the same where all are
abbrev pub invariant-loop-point : goal.invariant-loop-point
invariant-loop-point l = (points_view l.point-iterator ≡ l.left) ↔ (points_view l.points ≡ l.owned)
