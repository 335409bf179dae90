use Rattle.std.proofs.lemmas.Grind.{common_steps}
use Rattle.std.proofs.Common.{◌≡◌, ◌+◌, ◌<◌, ◌^◌, length, arith, List, ℕ, take, take_all, subst, sym, ap, rules}
use Rattle.std.specs.Prelude.{All}
use Rattle.mvt_layer.specs.declared.tile.Layer.{Layer}
use Rattle.mvt_layer.specs.Tile.{layer_view, layer_views}
use Rattle.mvt_write.specs.CanWrite.{CanWriteLayer}
use Rattle.mvt_write.specs.Fits.{FitsLayer}
use Rattle.mvt_write.specs.Written.{written}
use Rattle.mvt_write.proofs.Lists.{map_more, mapped_has, all_more}
use Rattle.mvt_layer.specs.Reads.{ReadsAs}
use Rattle.mvt_write.proofs.LayersRead.{written_reads}
use Rattle.mvt_write.proofs.LayerSteps.{layers_more}
use Rattle.mvt_write.proofs.tile.write_tile.Goals as goal

pub put_layer-requires : goal.put_layer-requires
put_layer-requires c =
    let layer = c.layer-item.result in
    let here = mapped_has layer_view CanWriteLayer c.args.layers.now c.loop-layer.layer-index layer c.loop-layer-test.true c.requires.layers in
    subst (λ (l : Layer). CanWriteLayer (layer_view l)) (sym c.layer-item.is) here

pub loop-layer-preserved : goal.loop-layer-preserved
loop-layer-preserved c =
    let layer = c.layer-item.result in
    let layers = c.args.layers.now in
    let so_far = layer_views (take c.loop-layer.layer-index layers) in
    let with_next = layer_views (take (c.loop-layer.layer-index + 1) layers) in
    let before = c.loop-layer.invariant in
    let step = c.in_ok-put_layer.ensures in
    let more = rw (← c.layer-item.is) at (map_more layer_view layers c.loop-layer.layer-index layer c.loop-layer-test.true) in
    record {
      written = layers_more c.loop-layer.out.items c.put_layer.new.out.items so_far with_next (layer_view layer) before.written step.written more;
      fits = all_more FitsLayer so_far with_next (layer_view layer) before.fits step.fits more;
    }

pub returns-clause-reads : goal.returns-clause-reads
returns-clause-reads c =
    let layers = c.args.layers.now in
    let all : take c.loop-layer.layer-index layers ≡ layers = take_all c.loop-layer.layer-index layers c.loop-layer-test.false in
    let out = c.loop-layer.out in
    let is : out.items ≡ written (layer_views layers) = subst (λ (ls : List Layer). out.items ≡ written (layer_views ls)) all c.loop-layer.invariant.written in
    let fits : All FitsLayer (layer_views layers) = subst (λ (ls : List Layer). All FitsLayer (layer_views ls)) all c.loop-layer.invariant.fits in
    let below : length (written (layer_views layers)) < 2 ^ 64 = omega (arith, ap length (sym is), out.ok.0, out.ok.1, out.small) in
    subst (λ (bytes : List ℕ). ReadsAs bytes (layer_views layers)) (sym is) (written_reads (layer_views layers) c.requires fits below)

pub loop-layer-init : goal.loop-layer-init
unfolding written
loop-layer-init c = search rules

pub returns-clause-written : goal.returns-clause-written
unfolding written
returns-clause-written c = grind (arith, common_steps)
