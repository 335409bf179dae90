use Rattle.std.proofs.Common.{◌≡◌, ◌+◌, ◌≤◌, ◌++◌, length, map, All}
use Rattle.std.specs.Prelude.{vec_len, vec_capacity}
use Rattle.serde_json.specs.View.{view}
use Rattle.map_metadata.specs.Metadata.{layer_json}
use Rattle.map_metadata.specs.Summaries.{layer_data, HasOrder}
use Rattle.map_metadata.proofs.writer.layers_value.Given as goal

abbrev pub invariant-loop-name : goal.invariant-loop-name
invariant-loop-name l = record {
  room : vec_len l.list + length l.name-iterator ≤ vec_capacity l.list;
  items : l.yielded ++ l.name-iterator ≡ l.fn.layers.entries;
  values : map view l.list.items ≡ map layer_json (map layer_data l.yielded);
  fields : All (λ e. HasOrder e.1.fields) l.yielded;
}
