use Rattle.std.proofs.Common.{◌≡◌, ◌++◌, refl, ◌∙◌, append_assoc, rules}
use Rattle.std.specs.List.{flat_map}
use Rattle.mvt_layer.specs.declared.layers.TheConstants.{CURRENT_VERSION, DEFAULT_EXTENT}
use Rattle.mvt_write.specs.Ending.{ending_bytes, rest_of}
use Rattle.mvt_write.specs.Held.{held_keys, held_values}
use Rattle.mvt_write.specs.Written.{number_field, bytes_field}
use Rattle.mvt_write.proofs.WriterSteps.{finished}
use Rattle.mvt_write.proofs.layer_writer.LayerWriter.into_ending.Goals as goal

pub returns : goal.returns
returns c = λ name fs writes.
    let w = c.args.self in
    let bytes = w.bytes.items in
    let keys = flat_map (bytes_field 3) (held_keys w.pools.value) in
    let values = flat_map (bytes_field 4) (held_values w.pools.value) in
    let end = number_field 5 DEFAULT_EXTENT ++ number_field 15 CURRENT_VERSION in
    let by_keys : rest_of c.of.result.keys ≡ held_keys w.pools.value = search rules in
    let by_values : rest_of c.of.result.values ≡ held_values w.pools.value = search rules in
    let whole : ending_bytes c.of.result ≡ (bytes ++ (keys ++ values)) ++ end = rw (c.of.ensures.bytes, by_keys, by_values) (search (rules, append_assoc)) in
    whole ∙ finished w name fs (bytes ++ (keys ++ values)) ((bytes ++ (keys ++ values)) ++ end) writes refl refl
