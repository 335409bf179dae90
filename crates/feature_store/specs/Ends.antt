-- The end of a tile in the making.
use Rattle.std.specs.Prelude.{◌≡◌, ℕ, ◌+◌, ◌*◌, ◌^◌, ◌++◌, length, map, All}
use Rattle.mvt_write.specs.TileBytes.{LAYER_PARTS}
use Rattle.mvt_write.specs.Written.{written}
use Rattle.feature_store.specs.declared.tile_end.TileEnd.{TileEnd}
use Rattle.feature_store.specs.Gathered.{HasWritten, layer_of}
use Rattle.feature_store.specs.Layers.{cuts_of, layers}
use Rattle.feature_store.specs.Store.{FeatureMap}

-- The tile of the map is what is written, and then the layers that aren't begun. Each of these has what the tile shows of the map under its name.
pub record Ends (m : FeatureMap) (z x y : ℕ) (e : TileEnd) : Type 0 where
  pub has : All (HasWritten (λ name. cuts_of m name z x y)) e.layers
  pub bytes : e.tile.bytes ++ written (map (layer_of (λ name. cuts_of m name z x y)) e.layers) ≡ written (layers m z x y)

-- a number that falls with each part, and is 0 once all layers are written
abbrev pub end_work : TileEnd → ℕ
end_work e = length e.layers * LAYER_PARTS + e.tile.left

-- more than that number is for any tile
abbrev pub END_WORK : ℕ
END_WORK = 2 ^ 131
