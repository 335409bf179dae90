use Rattle.std.proofs.Common.{◌≤◌, ◌≡◌, drop, length}
use Rattle.std.specs.Prelude.{vec_len, vec_capacity}
use Rattle.serde_json.specs.View.{items_view}
use Rattle.edit_json.specs.Lists.{point_in, each}
use Rattle.edit_json.proofs.ListLemmas.{rest_gives}
use Rattle.edit_json.proofs.lists.read_points.Given as goal

abbrev pub invariant-loop-value : goal.invariant-loop-value
invariant-loop-value l = record {
  len : vec_len l.points ≡ l.value-index;
  room : length l.list ≤ vec_capacity l.points;
  read : rest_gives point_in l.points.items (drop l.value-index l.list) ≡ each point_in (items_view l.list);
}
