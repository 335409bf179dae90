-- A layer whose features are written, and whose pools are written by parts.
use Rattle.std.specs.Prelude.{ℕ, ◌+◌, List, ◌++◌, length, drop}
use Rattle.std.specs.List.{flat_map}
use Rattle.mvt_layer.specs.declared.field_numbers.TheConstants.{LAYER_KEYS, LAYER_VALUES, LAYER_EXTENT, LAYER_VERSION}
use Rattle.mvt_layer.specs.declared.layers.TheConstants.{CURRENT_VERSION, DEFAULT_EXTENT}
use Rattle.mvt_write.specs.declared.ending.LayerEnding.{LayerEnding}
use Rattle.mvt_write.specs.declared.ending.PoolRest.{PoolRest}
use Rattle.mvt_write.specs.Entries.{entries_of}
use Rattle.mvt_write.specs.Written.{bytes_field, number_field}

-- the entries of a pool that aren't written
abbrev pub rest_of : PoolRest → List (List ℕ)
rest_of p = drop p.done (entries_of p.entries)

-- the bytes of the layer once all entries are written
abbrev pub ending_bytes : LayerEnding → List ℕ
ending_bytes e =
    e.bytes.items ++ (
    flat_map (bytes_field LAYER_KEYS) (rest_of e.keys) ++ (
    flat_map (bytes_field LAYER_VALUES) (rest_of e.values) ++ (
    number_field LAYER_EXTENT DEFAULT_EXTENT ++ number_field LAYER_VERSION CURRENT_VERSION)))

-- the number of entries that aren't written
abbrev pub ending_left : LayerEnding → ℕ
ending_left e = length (rest_of e.keys) + length (rest_of e.values)
