use Rattle.std.proofs.lemmas.Result.{err_from_is_err_and}
use Rattle.reader.proofs.Steps.{gives_on}
use Rattle.mvt_layer.specs.declared.fault.TileFault.TheVariants.{Memory}
use Rattle.mvt_layer.specs.Tile.{layer_views}
use Rattle.mvt_layer.specs.Reading.{layer_more}
use Rattle.mvt_layer.proofs.Folds.{part_at, parts_on, parts_stop, parts_done}
use Rattle.mvt_layer.proofs.layers.layers_of.Goals as goal

pub returns-in_err-all : goal.returns-in_err-all
returns-in_err-all c =
    let p = err_from_is_err_and c.from_residual.result c.from_residual.ensures.1 in
    let raw = c.args.raw.now in
    let i = c.loop-part.part-index in
    let before = layer_views c.loop-part.all.layers.items in
    rw (p.1, p.2) (gives_on Memory c.in_err-all.field-0.0 (layer_more before (part_at raw i)) _
    (λ d. parts_stop layer_more raw i before d _ c.loop-part-test.true c.loop-part.invariant)
    c.in_err-all.ensures)

pub loop-part-preserved : goal.loop-part-preserved
loop-part-preserved c =
    parts_on layer_more c.args.raw.now c.loop-part.part-index (layer_views c.loop-part.all.layers.items) (layer_views c.in_ok-all.all.layers.items) _
    c.loop-part-test.true c.loop-part.invariant c.in_ok-all.ensures

pub returns : goal.returns
returns c = rw c.into_layers.ensures (parts_done layer_more c.args.raw.now c.loop-part.part-index (layer_views c.loop-part.all.layers.items) _
    c.loop-part-test.false c.loop-part.invariant)
