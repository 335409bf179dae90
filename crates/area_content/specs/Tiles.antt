-- The tiles of a map, and archives of them.
use Rattle.std.specs.Prelude.{◌≡◌, ◌⊎◌, ℕ, List, [], Option, Some}
use Rattle.feature_store.specs.Content.{IsTileContent}
use Rattle.feature_store.specs.Layers.{layers}
use Rattle.feature_store.specs.Store.{FeatureMap}
use Rattle.hilbert_id.specs.Curve.{IsTileId}
use Rattle.pm_build.specs.Built.{tile_content}
use Rattle.pm_build.specs.Laid.{AreLaidOut}
use Rattle.pm_build.specs.Tiles.{Tile}
use Rattle.pm_build.specs.Vector.{IsVectorArchive}

-- the contents of tile ids are the tiles of the map, and no other id has one
pub record AreTilesOf (m : FeatureMap) (content : ℕ → Option (List ℕ)) : Type 0 where
  pub each : (z x y id : ℕ) → IsTileId z x y id → IsTileContent (layers m z x y) (content id)
  pub only : (id : ℕ) (bytes : List ℕ) → content id ≡ Some bytes → (z : ℕ) × (x : ℕ) × (y : ℕ) × IsTileId z x y id

-- no tile of the map has layers
abbrev pub HasNoTile : FeatureMap → Type 0
HasNoTile m = (z x y : ℕ) → layers m z x y ≡ []

-- the bytes are an archive of exactly the tiles of the map, with this metadata, or empty if the map has no tile
abbrev pub IsArchiveOfMap : FeatureMap → (metadata bytes : List ℕ) → Type 0
IsArchiveOfMap m metadata bytes =
    (HasNoTile m × (bytes ≡ []))
    ⊎ ((HasNoTile m → ⊥) × ((content : ℕ → Option (List ℕ)) × AreTilesOf m content × IsVectorArchive bytes metadata content))

-- the bytes are the archive of these tiles, laid out as an archive is written, with this metadata, or empty if there are no tiles
abbrev pub IsArchiveOfTiles : List Tile → (metadata bytes : List ℕ) → Type 0
IsArchiveOfTiles tiles metadata bytes =
    ((tiles ≡ []) × (bytes ≡ [])) ⊎ (AreLaidOut bytes tiles metadata × IsVectorArchive bytes metadata (tile_content tiles))
