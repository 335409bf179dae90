use Rattle.std.proofs.Common.{◌≤◌, ◌≡◌, drop, map, length}
use Rattle.std.specs.Prelude.{vec_len, vec_capacity}
use Rattle.serde_json.specs.View.{items_view}
use Rattle.feature_model.specs.declared.limits.TheConstants.{MIN_RING}
use Rattle.edit_json.specs.Lists.{lines_at, each}
use Rattle.edit_json.proofs.ListLemmas.{rest_gives}
use Rattle.edit_json.proofs.lists.read_polygons.Given as goal

abbrev pub invariant-loop-value : goal.invariant-loop-value
invariant-loop-value l = record {
  len : vec_len l.polygons ≡ l.value-index;
  room : length l.list ≤ vec_capacity l.polygons;
  read : rest_gives (lines_at MIN_RING) (map (λ p. map (λ r. r.items) p.items) l.polygons.items) (drop l.value-index l.list)
      ≡ each (lines_at MIN_RING) (items_view l.list);
}
