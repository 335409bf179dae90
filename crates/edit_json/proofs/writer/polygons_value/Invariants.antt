use Rattle.std.proofs.Common.{◌≡◌, ◌+◌, ◌≤◌, ◌++◌, length, map}
use Rattle.std.specs.Prelude.{vec_len, vec_capacity}
use Rattle.serde_json.specs.View.{view}
use Rattle.edit_text.specs.Views.{polygons_view}
use Rattle.edit_json.specs.Json.{lines_json}
use Rattle.edit_json.proofs.writer.polygons_value.Given as goal

-- those that are written, and those that are left, for which there is room
abbrev pub invariant-loop-rings : goal.invariant-loop-rings
invariant-loop-rings l = record {
  room : vec_len l.list + length (polygons_view l.rings-iterator) ≤ vec_capacity l.list;
  done : map view l.list.items ++ map lines_json (polygons_view l.rings-iterator) ≡ map lines_json (polygons_view l.fn.polygons);
}
