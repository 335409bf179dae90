use Rattle.std.proofs.Common.{◌≡◌, take}
use Rattle.std.specs.Prelude.{All}
use Rattle.mvt_layer.specs.Tile.{layer_views}
use Rattle.mvt_write.specs.Fits.{FitsLayer}
use Rattle.mvt_write.specs.Written.{written}
use Rattle.mvt_write.proofs.tile.write_tile.Given as goal

abbrev pub invariant-loop-layer : goal.invariant-loop-layer
invariant-loop-layer l = record {
  written : l.out.items ≡ written (layer_views (take l.layer-index l.layers));
  fits : All FitsLayer (layer_views (take l.layer-index l.layers));
}
