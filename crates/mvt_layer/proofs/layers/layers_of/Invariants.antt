use Rattle.std.proofs.Common.{◌≡◌, drop}
use Rattle.reader.specs.Reading.{folded}
use Rattle.mvt_layer.specs.Tile.{bytes_of, layer_views}
use Rattle.mvt_layer.specs.Reading.{layer_more, layers_in}
use Rattle.mvt_layer.proofs.layers.layers_of.Given as goal

abbrev pub invariant-loop-part : goal.invariant-loop-part
invariant-loop-part l = folded (layer_more) (layer_views l.all.layers.items) (bytes_of (drop l.part-index l.raw)) ≡ layers_in (bytes_of l.raw)
