use Rattle.std.proofs.Common.{◌≡◌, ◌+◌, ◌≤◌, ◌++◌, length, map}
use Rattle.std.specs.Prelude.{vec_len, vec_capacity}
use Rattle.serde_json.specs.View.{view}
use Rattle.edit_text.specs.Views.{lines_view}
use Rattle.edit_json.specs.Json.{points_json}
use Rattle.edit_json.proofs.writer.lines_value.Given as goal

-- those that are written, and those that are left, for which there is room
abbrev pub invariant-loop-line : goal.invariant-loop-line
invariant-loop-line l = record {
  room : vec_len l.list + length (lines_view l.line-iterator) ≤ vec_capacity l.list;
  done : map view l.list.items ++ map points_json (lines_view l.line-iterator) ≡ map points_json (lines_view l.fn.lines);
}
