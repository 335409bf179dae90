-- The header of an archive whose sections are stored without gaps.
use Rattle.pm_header.specs.declared.header.TheConstants.{HEADER_BYTES}
use Rattle.std.specs.Prelude.{◌≡◌, ℕ, ◌+◌, ◌-◌, pos, negsuc, List, ◌++◌, length, map, Some, slice_get, Contains}
use Rattle.std.specs.List.{AllByRecursion, concat}
use Rattle.hilbert_id.specs.Curve.{IsTileId}
use Rattle.pm_header.specs.declared.header.Header.{Header}
use Rattle.pm_header.specs.declared.header.TheConstants.{CLUSTERED, HEADER_BYTES, VECTOR_TILES}
use Rattle.pm_header.specs.declared.compression.TheConstants.{NOT_COMPRESSED}
use Rattle.pm_header.specs.Layout.{IsHeader}
use Rattle.pm_build.specs.Runs.{TileRun, AreLongestRuns}
use Rattle.pm_build.specs.Placed.{AreDifferent}
use Rattle.pm_build.specs.Tiles.{Tile}
use Rattle.pm_build.specs.declared.header.Lengths.{Lengths}
use Rattle.pm_build.specs.declared.header.Counts.{Counts}

-- the zoom of a tile id
abbrev pub IsZoomOf : ℕ → ℕ → Type 0
IsZoomOf id zoom = (x : ℕ) × (y : ℕ) × IsTileId zoom x y id

-- the zooms of the first and of the last of these tiles
abbrev pub AreZooms : List Tile → ℕ → ℕ → Type 0
AreZooms tiles low high =
    (first : Tile) × (last : Tile) × (slice_get tiles 0 ≡ Some first) × (slice_get tiles (length tiles - 1) ≡ Some last) × IsZoomOf first.0 low
    × IsZoomOf last.0 high

-- The header of sections of these lengths, in the order root directory, metadata, leaf directories, contents. The contents are in
-- ascending order of their tile ids. Nothing is compressed. The tiles are Mapbox vector tiles of the whole map between these zooms, whose
-- bounds are in 1/10,000,000 of a degree.
unfoldable pub header_for : Lengths → Counts → ℕ → ℕ → Header
header_for l n min_zoom max_zoom = record {
  root = record { offset = HEADER_BYTES; length = l.root };
  metadata = record { offset = HEADER_BYTES + l.root; length = l.metadata };
  leaves = record { offset = HEADER_BYTES + l.root + l.metadata; length = l.leaves };
  tiles = record { offset = HEADER_BYTES + l.root + l.metadata + l.leaves; length = l.tiles };
  addressed = n.addressed;
  entries = n.entries;
  contents = n.contents;
  clustered = CLUSTERED;
  internal = NOT_COMPRESSED;
  compression = NOT_COMPRESSED;
  kind = VECTOR_TILES;
  min_zoom = min_zoom;
  max_zoom = max_zoom;
  min_lon = negsuc 1799999999;
  min_lat = negsuc 850511286;
  max_lon = pos 1800000000;
  max_lat = pos 850511287;
  centre_zoom = min_zoom;
  centre_lon = pos 0;
  centre_lat = pos 0;
}

-- the lengths of these sections
abbrev pub lengths_of : List ℕ → List ℕ → List ℕ → List ℕ → Lengths
lengths_of root metadata leaves contents = record { root = length root; metadata = length metadata; leaves = length leaves; tiles = length contents }

-- the bytes are the header and these sections, one after the other
abbrev pub AreJoined : List ℕ → Header → List ℕ → List ℕ → List ℕ → List ℕ → Type 0
AreJoined bytes h root metadata leaves contents =
    (front : List ℕ) × IsHeader front h × (length front ≡ HEADER_BYTES) × (bytes ≡ front ++ (root ++ (metadata ++ (leaves ++ contents))))

-- the bytes are the header and the sections before the contents, one after the other
abbrev pub IsFront : List ℕ → Header → List ℕ → List ℕ → List ℕ → Type 0
IsFront bytes h root metadata leaves = (head : List ℕ) × IsHeader head h × (length head ≡ HEADER_BYTES) × (bytes ≡ head ++ (root ++ (metadata ++ leaves)))

-- what a header counts: the tiles, their longest runs, and their different contents
abbrev pub counts_of : List Tile → List TileRun → List (List ℕ) → Counts
counts_of tiles runs contents = record { addressed = length tiles; entries = length runs; contents = length contents }

-- The bytes are a header, a root directory, the metadata, leaf directories and the different contents of the tiles, one after the
-- other. The header says where each section is, how many tiles, runs and contents there are, and the zooms of the tiles.
pub record AreLaidOut (bytes : List ℕ) (tiles : List Tile) (metadata : List ℕ) : Type 0 where
  pub runs : List TileRun
  pub longest : AreLongestRuns tiles runs
  pub contents : List (List ℕ)
  pub different : AreDifferent contents
  pub used : AllByRecursion (Contains (map (λ r. r.content) runs)) contents
  pub stored : AllByRecursion (λ r. Contains contents r.content) runs
  pub min_zoom : ℕ
  pub max_zoom : ℕ
  pub zooms : AreZooms tiles min_zoom max_zoom
  pub root : List ℕ
  pub leaves : List ℕ
  pub joined : AreJoined bytes (header_for (lengths_of root metadata leaves (concat contents)) (counts_of tiles runs contents) min_zoom max_zoom)
      root metadata leaves (concat contents)
