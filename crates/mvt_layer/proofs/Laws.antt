-- Laws of tiles, for whoever reads the contracts.
use Rattle.std.proofs.Common.{◌≡◌, ℕ, List, sym, ◌∙◌}
use Rattle.reader.proofs.Steps.{same_value}
use Rattle.mvt_layer.specs.declared.fault.TileFault.{TileFault}
use Rattle.mvt_layer.specs.Tile.{LayerView}
use Rattle.mvt_layer.specs.Reads.{ReadsAs}
use Rattle.mvt_layer.proofs.TileLaws.{tile_reads}

-- bytes read as at most one list of layers
pub one_reading : (bytes : List ℕ) (a b : List LayerView) → ReadsAs bytes a → ReadsAs bytes b → a ≡ b
one_reading bytes a b is_a is_b = same_value {Fault = TileFault} a b (sym (tile_reads bytes a is_a) ∙ tile_reads bytes b is_b)
