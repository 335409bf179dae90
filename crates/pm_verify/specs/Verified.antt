-- Archives without a fault, and the first fault of the others.
use Rattle.std.specs.Prelude.{◌≡◌, ℕ, List, ◌∷◌, ◌++◌, length, Ok, Err}
use Rattle.std.specs.List.{AllByRecursion}
use Rattle.mvt_layer.specs.Tile.{LayerView}
use Rattle.mvt_layer.specs.Reads.{ReadsAs}
use Rattle.pm_header.specs.declared.header.Header.{Header}
use Rattle.pm_header.specs.declared.header.TheConstants.{VECTOR_TILES}
use Rattle.pm_header.specs.declared.compression.TheConstants.{NOT_COMPRESSED}
use Rattle.pm_directory.specs.declared.entry.DirectoryEntry.{DirectoryEntry}
use Rattle.pm_verify.specs.declared.report.Report.{Report}
use Rattle.pm_archive.specs.declared.fault.ArchiveFault.{ArchiveFault}
use Rattle.pm_archive.specs.declared.fault.ArchiveFault.TheVariants as faults
use Rattle.pm_archive.specs.declared.fault.Count.{Count}
use Rattle.pm_archive.specs.declared.fault.Count.TheVariants as counts
use Rattle.pm_archive.specs.Sections.{section_bytes}
use Rattle.pm_archive.specs.Entries.{entry_bytes}
use Rattle.pm_metadata.specs.Archive.{IsArchive, IsMetadata, HasCounts, Says}
use Rattle.pm_directory.specs.Counts.{addressed_by, contents_of}
use Rattle.pm_archive.specs.Reading.{list_at}

-- the bytes are a vector tile
abbrev pub IsTile : List ℕ → Type 0
IsTile content = (layers : List LayerView) × ReadsAs content layers

-- the tiles are vector tiles, not compressed
abbrev pub AreVector : Header → Type 0
AreVector h = (h.kind ≡ VECTOR_TILES) × (h.compression ≡ NOT_COMPRESSED)

abbrev pub HasTile : List ℕ → Header → DirectoryEntry → Type 0
HasTile bytes h e = IsTile (entry_bytes h.tiles e bytes)

-- the counts of an archive with these tile entries
abbrev pub report_of : List DirectoryEntry → Report
report_of tiles = record { tiles = addressed_by tiles; entries = length tiles; contents = contents_of tiles }

-- the bytes are an archive; if its tiles are uncompressed vector tiles, each of them can be decoded
pub record IsSound (bytes : List ℕ) (report : Report) : Type 0 where
  pub header : Header
  pub tiles : List DirectoryEntry
  pub archive : IsArchive bytes header tiles
  pub each : AreVector header → AllByRecursion (HasTile bytes header) tiles
  pub told : report ≡ report_of tiles

-- of an archive that was opened with this header and these entries of its root directory, all else that `IsSound` asks
pub record IsVerified (bytes : List ℕ) (h : Header) (root : List DirectoryEntry) (report : Report) : Type 0 where
  pub metadata : IsMetadata (section_bytes h.metadata bytes)
  pub tiles : List DirectoryEntry
  pub listed : list_at bytes h root ≡ Ok tiles
  pub counts : HasCounts h tiles
  pub each : AreVector h → AllByRecursion (HasTile bytes h) tiles
  pub told : report ≡ report_of tiles

-- the first count that differs
pub data HasOtherCount (h : Header) (tiles : List DirectoryEntry) (c : Count) : Type 0 where
  other_addressed : c ≡ counts.Addressed → ¬ Says h.addressed (addressed_by tiles) → HasOtherCount h tiles c
  other_entries : c ≡ counts.Entries → Says h.addressed (addressed_by tiles) → ¬ Says h.entries (length tiles) → HasOtherCount h tiles c
  other_contents : c ≡ counts.Contents → Says h.addressed (addressed_by tiles) → Says h.entries (length tiles) → ¬ Says h.contents (contents_of tiles)
      → HasOtherCount h tiles c

-- the first fault of an archive that was opened with this header and these entries of its root directory
pub data VerifyingHas (bytes : List ℕ) (h : Header) (root : List DirectoryEntry) (d : ArchiveFault) : Type 0 where
  bad_metadata : d ≡ faults.Metadata → ¬ IsMetadata (section_bytes h.metadata bytes) → VerifyingHas bytes h root d
  bad_entries : IsMetadata (section_bytes h.metadata bytes) → list_at bytes h root ≡ Err d → VerifyingHas bytes h root d
  bad_count : (c : Count) → (tiles : List DirectoryEntry) → d ≡ faults.Count c → IsMetadata (section_bytes h.metadata bytes) → list_at bytes h root ≡ Ok tiles
      → HasOtherCount h tiles c → VerifyingHas bytes h root d
  bad_tile : (front : List DirectoryEntry) → (e : DirectoryEntry) → (rest : List DirectoryEntry) → d ≡ faults.Tile e.id
      → IsMetadata (section_bytes h.metadata bytes) → list_at bytes h root ≡ Ok (front ++ e ∷ rest) → HasCounts h (front ++ e ∷ rest)
      → AreVector h → AllByRecursion (HasTile bytes h) front → ¬ HasTile bytes h e → VerifyingHas bytes h root d
