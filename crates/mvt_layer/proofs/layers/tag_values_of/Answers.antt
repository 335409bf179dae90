use Rattle.std.proofs.Common.{arith}
use Rattle.std.proofs.lemmas.Result.{err_from_is_err_and}
use Rattle.mvt_layer.specs.Tile.{tag_view, tag_views}
use Rattle.mvt_layer.specs.Reading.{tag_value_at, part_more}
use Rattle.mvt_layer.proofs.Folds.{each_on, each_stop, parts_done}
use Rattle.mvt_layer.proofs.layers.tag_values_of.Goals as goal

pub returns-in_err-value : goal.returns-in_err-value
returns-in_err-value c =
    let p = err_from_is_err_and c.from_residual-in_err-value.result c.from_residual-in_err-value.ensures.1 in
    let raw = c.args.raw.now in
    let i = c.loop-part.part-index in
    let stopped = each_stop tag_view tag_value_at raw i (tag_views c.loop-part.values.items) c.in_err-value.field-0.0 _
    c.loop-part-test.true c.loop-part.invariant.read c.in_err-value.ensures in
    rw (p.1, p.2) (λ _. stopped)

pub loop-part-preserved : goal.loop-part-preserved
loop-part-preserved c = record {
  len = omega (arith, c.loop-part.invariant.len, c.push_reserved.ensures.len);
  room = omega (arith, c.loop-part.invariant.room, c.push_reserved.ensures.capacity);
  read = each_on tag_view (tag_value_at) c.args.raw.now c.loop-part.part-index c.loop-part.values.items c.push_reserved.new.self.items c.in_ok-value.value _
      c.loop-part-test.true c.loop-part.invariant.read c.in_ok-value.ensures c.push_reserved.ensures.items;
}

pub push_reserved-requires : goal.push_reserved-requires
push_reserved-requires c = omega (arith, c.loop-part.invariant.len, c.loop-part.invariant.room, c.loop-part-test.true)

pub returns : goal.returns
returns c =
    parts_done (part_more (tag_value_at)) c.args.raw.now c.loop-part.part-index (tag_views c.loop-part.values.items) _
    c.loop-part-test.false c.loop-part.invariant.read
