use Rattle.std.proofs.Common.{◌≡◌, ◌++◌, List, ℕ, ap, ◌∙◌}
use Rattle.std.specs.List.{flat_map}
use Rattle.std.proofs.lemmas.Result.{on_ok_weaker}
use Rattle.mvt_write.specs.declared.tag_pools.TagPools.{TagPools}
use Rattle.mvt_write.specs.Held.{held_keys, held_values}
use Rattle.mvt_write.specs.Writes.{layer_of}
use Rattle.mvt_write.specs.Written.{bytes_field, layer_written}
use Rattle.mvt_write.proofs.WriterSteps.{finished}
use Rattle.mvt_write.proofs.layer_writer.LayerWriter.finish.Goals as goal

pub returns : goal.returns
returns c =
    on_ok_weaker c.put_bytes.result
    (λ written name fs writes.
    let pooled : c.put.new.out.items ≡ c.args.self.bytes.items
    ++ (flat_map (bytes_field 3) (held_keys c.args.self.pools.value) ++ flat_map (bytes_field 4) (held_values c.args.self.pools.value)) =
    c.in_ok-put.ensures ∙ ap (λ (pools : TagPools). c.args.self.bytes.items
    ++ (flat_map (bytes_field 3) (held_keys pools) ++ flat_map (bytes_field 4) (held_values pools))) c.deref.ensures in
    let bytes : c.deref-2.result.now ≡ layer_written (layer_of name fs) =
    c.deref-2.ensures.value ∙ finished c.args.self name fs c.put.new.out.items c.put_end.new.out.items writes pooled c.in_ok-put_end.ensures in
    written ∙ ap (λ (b : List ℕ). c.args.out.now.items ++ bytes_field 3 b) bytes)
    c.put_bytes.ensures
