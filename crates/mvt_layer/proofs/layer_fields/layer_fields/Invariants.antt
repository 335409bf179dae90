use Rattle.std.specs.Option.{option_map}
use Rattle.reader.specs.Reading.{folded}
use Rattle.pb_wire.specs.Items.{fields_rest}
use Rattle.mvt_layer.specs.Tile.{bytes_of}
use Rattle.mvt_layer.specs.Reading.{after, number_after, bytes_after, parts_after, last_number_in, last_bytes_in, parts_in}
use Rattle.mvt_layer.proofs.Walks.{Leads}
use Rattle.mvt_layer.proofs.layer_fields.layer_fields.Given as goal

abbrev pub invariant-loop-item : goal.invariant-loop-item
invariant-loop-item l = record {
  name : Leads (option_map (λ b. b.now)) l.fields.name (λ s. folded (after 1 bytes_after) s (fields_rest l.item-iterator)) (last_bytes_in 1 l.bytes);
  features : Leads (λ _. bytes_of l.features.items) l.fields.features (λ s. folded (after 2 parts_after) s (fields_rest l.item-iterator)) (parts_in 2 l.bytes);
  keys : Leads (λ _. bytes_of l.keys.items) l.fields.keys (λ s. folded (after 3 parts_after) s (fields_rest l.item-iterator)) (parts_in 3 l.bytes);
  values : Leads (λ _. bytes_of l.values.items) l.fields.values (λ s. folded (after 4 parts_after) s (fields_rest l.item-iterator)) (parts_in 4 l.bytes);
  extent : Leads (λ n. n) l.fields.extent (λ s. folded (after 5 number_after) s (fields_rest l.item-iterator)) (last_number_in 5 l.bytes);
  version : Leads (λ n. n) l.fields.version (λ s. folded (after 15 number_after) s (fields_rest l.item-iterator)) (last_number_in 15 l.bytes);
}
