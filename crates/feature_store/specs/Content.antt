-- What a tile with given layers is as bytes (Mapbox Vector Tile 2.1).
use Rattle.std.specs.Prelude.{◌≡◌, ◌<◌, ℕ, List, [], length, Option, Some, None}
use Rattle.mvt_layer.specs.Reads.{ReadsAs}
use Rattle.mvt_layer.specs.Tile.{LayerView}

-- the content of a tile with these layers: bytes that read as them, and none where there are none
abbrev pub IsTileContent : List LayerView → Option (List ℕ) → Type 0
IsTileContent ls None = ls ≡ []
IsTileContent ls (Some bytes) = (0 < length ls) × ReadsAs bytes ls
