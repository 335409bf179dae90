use Rattle.reader.specs.Reading.{folded}
use Rattle.pb_wire.specs.Items.{fields_rest}
use Rattle.mvt_layer.specs.Reading.{after, number_after, numbers_after, last_number_in, numbers_in}
use Rattle.mvt_layer.proofs.Walks.{Leads}
use Rattle.mvt_layer.proofs.feature_fields.feature_fields.Given as goal

abbrev pub invariant-loop-item : goal.invariant-loop-item
invariant-loop-item l = record {
  id : Leads (λ n. n) l.fields.id (λ s. folded (after 1 number_after) s (fields_rest l.item-iterator)) (last_number_in 1 l.bytes);
  kind : Leads (λ n. n) l.fields.kind (λ s. folded (after 3 number_after) s (fields_rest l.item-iterator)) (last_number_in 3 l.bytes);
  indices : Leads (λ _. l.indices.items) l.fields.indices (λ s. folded (after 2 numbers_after) s (fields_rest l.item-iterator)) (numbers_in 2 l.bytes);
  ints : Leads (λ _. l.ints.items) l.fields.ints (λ s. folded (after 4 numbers_after) s (fields_rest l.item-iterator)) (numbers_in 4 l.bytes);
}
