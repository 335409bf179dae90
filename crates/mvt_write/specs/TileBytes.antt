-- A tile to which layers are added by parts.
use Rattle.std.specs.Prelude.{ℕ, ◌+◌, ◌^◌, List, [], ◌++◌, length, drop}
use Rattle.mvt_layer.specs.declared.field_numbers.TheConstants.{TILE_LAYERS}
use Rattle.mvt_write.specs.declared.tile_writer.LayerLeft.{LayerLeft}
use Rattle.mvt_write.specs.declared.tile_writer.LayerLeft.TheVariants.{Over, Pools, Bytes, Spent}
use Rattle.mvt_write.specs.declared.tile_writer.TileWriter.TheInside.{Inside}
use Rattle.mvt_write.specs.Ending.{ending_bytes, ending_left}
use Rattle.mvt_write.specs.Written.{bytes_field}

-- what contracts see of a tile that is being written
pub record TileBytes : Type 0 where
  -- its bytes once all parts of its layers are added
  pub bytes : List ℕ
  -- the greatest number of parts that may be left to add; it is 0 exactly if none is
  pub left : ℕ

-- more parts than any layer has
abbrev pub LAYER_PARTS : ℕ
LAYER_PARTS = 2 ^ 67

-- what is left to add of a layer
abbrev pub bytes_left : LayerLeft → List ℕ
bytes_left Over = []
bytes_left (Pools ending) = bytes_field TILE_LAYERS (ending_bytes ending)
bytes_left (Bytes rest) = drop rest.done rest.bytes.items
bytes_left (Spent bytes) = []

-- the greatest number of parts that takes: one for each entry of the pools, one for the head of the layer's field, one for each byte that is added,
-- and one for each byte that is given back; 2 ^ 66 is more than the last three, which are not counted before the pools are written
abbrev pub parts_left : LayerLeft → ℕ
parts_left Over = 0
parts_left (Pools ending) = 2 ^ 66 + ending_left ending
parts_left (Bytes rest) = 2 + length (drop rest.done rest.bytes.items) + length rest.bytes.items
parts_left (Spent bytes) = 1 + length bytes.items

abbrev pub tile_bytes : Inside → TileBytes
tile_bytes t = record { bytes = t.out.items ++ bytes_left t.layer; left = parts_left t.layer }
