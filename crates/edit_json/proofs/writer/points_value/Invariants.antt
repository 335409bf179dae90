use Rattle.std.proofs.Common.{◌≡◌, ◌+◌, ◌≤◌, ◌++◌, length, map}
use Rattle.std.specs.Prelude.{vec_len, vec_capacity}
use Rattle.serde_json.specs.View.{view}
use Rattle.edit_text.specs.Views.{points_view}
use Rattle.edit_json.specs.Json.{point_json}
use Rattle.edit_json.proofs.writer.points_value.Given as goal

-- those that are written, and those that are left, for which there is room
abbrev pub invariant-loop-point : goal.invariant-loop-point
invariant-loop-point l = record {
  room : vec_len l.list + length (points_view l.point-iterator) ≤ vec_capacity l.list;
  done : map view l.list.items ++ map point_json (points_view l.point-iterator) ≡ map point_json (points_view l.fn.points);
}
