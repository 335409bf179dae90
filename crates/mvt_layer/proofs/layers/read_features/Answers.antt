use Rattle.std.proofs.lemmas.Result.{err_from_is_err_and}
use Rattle.reader.proofs.Steps.{gives_on}
use Rattle.mvt_layer.specs.declared.fault.TileFault.TheVariants.{Memory}
use Rattle.std.proofs.Common.{map, arith}
use Rattle.mvt_layer.specs.Tile.{bytes_of, tag_views, feature_view}
use Rattle.mvt_layer.specs.Reading.{feature_at, part_more}
use Rattle.mvt_layer.proofs.Folds.{part_at, each_on, each_stop, parts_done}
use Rattle.mvt_layer.proofs.layers.read_features.Goals as goal

pub returns-in_err-feature : goal.returns-in_err-feature
returns-in_err-feature c =
    let p = err_from_is_err_and c.from_residual-in_err-feature.result c.from_residual-in_err-feature.ensures.1 in
    let raw = c.args.raw.now in
    let i = c.loop-part.part-index in
    let keys = bytes_of c.args.keys.now in
    let values = tag_views c.args.values.now in
    rw (p.1, p.2) (gives_on Memory c.in_err-feature.field-0.0 (feature_at keys values (part_at raw i)) _
    (λ d. each_stop feature_view (feature_at keys values) raw i (map feature_view c.loop-part.features.items) d _
    c.loop-part-test.true c.loop-part.invariant.read)
    c.in_err-feature.ensures)

pub loop-part-preserved : goal.loop-part-preserved
loop-part-preserved c =
    let keys = bytes_of c.args.keys.now in
    let values = tag_views c.args.values.now in
    record {
      len = omega (arith, c.loop-part.invariant.len, c.push_reserved.ensures.len);
      room = omega (arith, c.loop-part.invariant.room, c.push_reserved.ensures.capacity);
      read = each_on feature_view (feature_at keys values) c.args.raw.now c.loop-part.part-index
          c.loop-part.features.items c.push_reserved.new.self.items c.in_ok-feature.feature _
          c.loop-part-test.true c.loop-part.invariant.read c.in_ok-feature.ensures c.push_reserved.ensures.items;
    }

pub push_reserved-requires : goal.push_reserved-requires
push_reserved-requires c = omega (arith, c.loop-part.invariant.len, c.loop-part.invariant.room, c.loop-part-test.true)

pub returns : goal.returns
returns c =
    let keys = bytes_of c.args.keys.now in
    let values = tag_views c.args.values.now in
    parts_done (part_more (feature_at keys values)) c.args.raw.now c.loop-part.part-index (map feature_view c.loop-part.features.items) _
    c.loop-part-test.false c.loop-part.invariant.read
