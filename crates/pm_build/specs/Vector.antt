-- Archives of vector tiles: what the header tells a reader of the tiles (PMTiles 3, "Header").
use Rattle.std.specs.Prelude.{◌≡◌, ◌≤◌, ℕ, List, Option, Some}
use Rattle.hilbert_id.specs.Curve.{IsTileId}
use Rattle.pm_header.specs.declared.header.Header.{Header}
use Rattle.pm_header.specs.declared.header.TheConstants.{VECTOR_TILES}
use Rattle.pm_header.specs.declared.compression.TheConstants.{NOT_COMPRESSED}
use Rattle.pm_directory.specs.declared.entry.DirectoryEntry.{DirectoryEntry}
use Rattle.pm_archive.specs.Archive.{content_of}
use Rattle.pm_archive.specs.Sections.{section_bytes}
use Rattle.pm_metadata.specs.Archive.{IsArchive}

-- some tile of this zoom has a content
abbrev pub HasTileOn : (ℕ → Option (List ℕ)) → ℕ → Type 0
HasTileOn content zoom =
    (x : ℕ) × (y : ℕ) × (id : ℕ) × (bytes : List ℕ) × IsTileId zoom x y id × (content id ≡ Some bytes)

-- the lowest and the highest zoom of the tiles that have a content
pub record AreZoomsOf (content : ℕ → Option (List ℕ)) (low high : ℕ) : Type 0 where
  pub lowest : HasTileOn content low
  pub highest : HasTileOn content high
  pub within : (z x y id : ℕ) (bytes : List ℕ) → IsTileId z x y id → content id ≡ Some bytes → (low ≤ z) × (z ≤ high)

-- The bytes are an archive of exactly these contents of tile ids, with this metadata. Its header says that the contents are Mapbox vector
-- tiles, that they aren't compressed, and their lowest and highest zoom.
pub record IsVectorArchive (bytes metadata : List ℕ) (content : ℕ → Option (List ℕ)) : Type 0 where
  pub header : Header
  pub entries : List DirectoryEntry
  pub is_archive : IsArchive bytes header entries
  pub contents : (id : ℕ) → content id ≡ content_of bytes header entries id
  pub metadata_is : section_bytes header.metadata bytes ≡ metadata
  pub kind : header.kind ≡ VECTOR_TILES
  pub compression : header.compression ≡ NOT_COMPRESSED
  pub zooms : AreZoomsOf content header.min_zoom header.max_zoom
