use Rattle.std.proofs.Common.{◌≡◌, subst, ◌∙◌}
use Rattle.std.specs.Prelude.{All}
use Rattle.std.specs.List.{flat_map}
use Rattle.std.proofs.lemmas.Result.{on_ok_weaker}
use Rattle.pb_wire.specs.Varint.{varint}
use Rattle.geometry_commands.specs.Shapes.{shape_view, shape_spelled}
use Rattle.mvt_layer.specs.Tile.{feature_view, tagged}
use Rattle.mvt_write.specs.Fits.{FitsTag, FitsFeature}
use Rattle.mvt_write.specs.Writes.{Writes}
use Rattle.mvt_write.proofs.Integers.{integers_small}
use Rattle.mvt_write.proofs.layer.put_feature.Goals as goal

pub returns-clause-writes : goal.returns-clause-writes
returns-clause-writes c =
    let feature = c.args.feature.now in
    let tags = feature.tags.items in
    on_ok_weaker c.put_feature.result
    (λ step name fs start.
    let before : Writes c.put_tags.new.writer name fs (tagged tags) =
    subst (λ ts. Writes c.put_tags.new.writer name fs (tagged ts)) c.deref.ensures.value (c.in_ok-put_tags.ensures.writes name fs start) in
    let packed : c.deref-2.result.now ≡ flat_map varint (shape_spelled (shape_view feature.shape)) =
    c.deref-2.ensures.value ∙ c.in_ok-pack_geometry.ensures.packed in
    step name fs (tagged tags) (shape_view feature.shape) before packed c.shape_kind.ensures)
    c.put_feature.ensures.writes

pub returns-clause-fits : goal.returns-clause-fits
returns-clause-fits c =
    let fits : FitsFeature (feature_view c.args.feature.now) = record {
      id = c.put_feature.ensures.fits;
      tags = subst (λ ts. All FitsTag (tagged ts)) c.deref.ensures.value c.in_ok-put_tags.ensures.fits;
      integers = integers_small (shape_view c.args.feature.now.shape) c.requires.shape;
      shape = c.in_ok-pack_geometry.ensures.shape;
    } in
    on_ok_weaker c.put_feature.result (λ written. fits) c.put_feature.ensures.writes
