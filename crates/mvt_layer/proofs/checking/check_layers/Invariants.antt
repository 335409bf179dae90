use Rattle.std.proofs.Common.{◌≡◌, List, drop}
use Rattle.reader.specs.Reading.{folded}
use Rattle.mvt_layer.specs.Tile.{bytes_of, LayerView}
use Rattle.mvt_layer.specs.Reading.{layer_more, layers_in}
use Rattle.mvt_layer.proofs.Tags.{HoldsNames}
use Rattle.mvt_layer.proofs.checking.check_layers.Given as goal

-- there are layers with these names after which the other parts are
abbrev pub invariant-loop-part : goal.invariant-loop-part
invariant-loop-part l = (before : List LayerView) × HoldsNames l.names before
    × (folded layer_more before (bytes_of (drop l.part-index l.raw)) ≡ layers_in (bytes_of l.raw))
