use Rattle.std.proofs.Common.{◌≤◌, ◌≡◌, drop, map, length}
use Rattle.std.specs.Prelude.{vec_len, vec_capacity}
use Rattle.serde_json.specs.View.{items_view}
use Rattle.edit_json.specs.Lists.{points_at, each}
use Rattle.edit_json.proofs.ListLemmas.{rest_gives}
use Rattle.edit_json.proofs.lists.read_lines.Given as goal

abbrev pub invariant-loop-value : goal.invariant-loop-value
invariant-loop-value l = record {
  len : vec_len l.lines ≡ l.value-index;
  room : length l.list ≤ vec_capacity l.lines;
  read : rest_gives (points_at l.least) (map (λ l. l.items) l.lines.items) (drop l.value-index l.list)
      ≡ each (points_at l.least) (items_view l.list);
}
