-- Layers, one after the other.
use Rattle.std.proofs.Common.{◌≡◌, ℕ, ◌<◌, List, [], ◌∷◌, ◌++◌, length, sym, ap, ◌∙◌, arith}
use Rattle.std.proofs.lemmas.List.{append_assoc, flat_map_more}
use Rattle.pb_wire.specs.Varint.{varint, shortest_in}
use Rattle.mvt_layer.specs.Tile.{LayerView}
use Rattle.mvt_write.specs.Written.{bytes_field, layer_written, written}

-- the field of one layer more
pub layers_more : (bytes after : List ℕ) (ls more : List LayerView) (l : LayerView) → bytes ≡ written ls → after ≡ bytes ++ bytes_field 3 (layer_written l)
    → more ≡ ls ++ l ∷ [] → after ≡ written more
unfolding written
layers_more bytes after ls more l before step is =
    step ∙ ap (λ (a : List ℕ). a ++ bytes_field 3 (layer_written l)) before ∙ flat_map_more (λ m. bytes_field 3 (layer_written m)) [] ls l ∙ ap written (sym is)

-- the first of some layers, after other bytes
pub layer_first : (bytes : List ℕ) (l : LayerView) (ls : List LayerView)
    → (bytes ++ bytes_field 3 (layer_written l)) ++ written ls ≡ bytes ++ written (l ∷ ls)
unfolding written
layer_first bytes l ls = append_assoc bytes (bytes_field 3 (layer_written l)) (written ls)

-- a layer has bytes
pub written_some : (l : LayerView) (ls : List LayerView) → 0 < length (written (l ∷ ls))
unfolding written varint shortest_in
written_some l ls = omega arith
