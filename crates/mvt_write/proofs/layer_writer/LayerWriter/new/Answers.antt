use Rattle.std.proofs.Common.{◌≡◌, ap, ◌∙◌}
use Rattle.mvt_write.specs.Held.{held_keys, held_values}
use Rattle.mvt_write.specs.Written.{bytes_field}
use Rattle.mvt_write.proofs.WriterSteps.{starts}
use Rattle.mvt_write.proofs.layer_writer.LayerWriter.new.Goals as goal

pub returns : goal.returns
returns c =
    let named : c.put_bytes.new.out.items ≡ bytes_field 1 c.args.name.now =
    rw (c.in_ok-bytes.ensures.items, c.as_bytes.ensures.value) at c.in_ok-put_bytes.ensures in
    starts _ c.args.name.now (ap held_keys c.in_ok-pools.ensures.ok ∙ c.in_ok-tag_pools.ensures.keys)
    (ap held_values c.in_ok-pools.ensures.ok ∙ c.in_ok-tag_pools.ensures.values) c.in_ok-with_capacity.ensures.items named
