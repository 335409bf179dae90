use Rattle.std.proofs.Common.{◌+◌, ◌≤◌, length, ◌≡◌, ◌++◌}
use Rattle.std.specs.Prelude.{vec_len, vec_capacity}
use Rattle.edit_text.specs.Views.{points_view}
use Rattle.edit_text.proofs.owned.own_points.Given as goal

-- those that are owned, and those that are left, for which there is room
abbrev pub invariant-loop-point : goal.invariant-loop-point
invariant-loop-point l = record {
  room : vec_len l.owned + length (points_view l.point-iterator) ≤ vec_capacity l.owned;
  done : l.owned.items ++ points_view l.point-iterator ≡ points_view l.fn.points;
}
