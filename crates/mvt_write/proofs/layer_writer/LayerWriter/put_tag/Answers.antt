use Rattle.std.proofs.Common.{◌≡◌, refl, ap, ◌∙◌}
use Rattle.std.specs.Box.{with_value}
use Rattle.mvt_layer.specs.Tile.{tag_view}
use Rattle.mvt_write.specs.declared.layer_writer.LayerWriter.{LayerWriter}
use Rattle.mvt_write.specs.declared.tag_pools.TagPools.{TagPools}
use Rattle.mvt_write.specs.Held.{held_keys, held_values}
use Rattle.mvt_write.specs.Pools.{with_entry}
use Rattle.mvt_write.specs.Written.{value_written}
use Rattle.mvt_write.proofs.WriterSteps.{tag_added}
use Rattle.mvt_write.proofs.layer_writer.LayerWriter.put_tag.Goals as goal

pub returns-clause-writes : goal.returns-clause-writes
returns-clause-writes c = λ name fs tags before.
    let old = c.args.self.now in
    let key = c.args.key.now in
    let value = value_written (tag_view c.args.value) in
    let step = c.in_ok-put_indices.ensures in
    let after : LayerWriter = record {
      pools = with_value old.pools c.put_indices.new.pools;
      tags = c.put_indices.new.out;
      bytes = old.bytes;
      heads = record { tags = c.put_indices.new.message; geometry = old.heads.geometry };
    } in
    let keys : held_keys c.put_indices.new.pools ≡ with_entry (held_keys old.pools.value) key =
    step.keys ∙ ap (λ (pools : TagPools). with_entry (held_keys pools) key) c.deref_mut.ensures.value in
    let values : held_values c.put_indices.new.pools ≡ with_entry (held_values old.pools.value) value =
    step.values ∙ ap (λ (pools : TagPools). with_entry (held_values pools) value) c.deref_mut.ensures.value in
    tag_added old after name fs tags (key, tag_view c.args.value) before keys values step.written refl
