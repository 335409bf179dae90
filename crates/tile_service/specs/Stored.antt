-- What an image of a disk holds: a map as a snapshot and the edits since, and the archive of the snapshot's tiles.
use Rattle.std.specs.Prelude.{◌≡◌, ◌⊎◌, ◌<◌, ◌≤◌, ◌+◌, ◌%◌, ℕ, List, [], ◌∷◌, ◌++◌, length, map, take, All, Some}
use Rattle.std.proofs.Common.{suc}
use Rattle.sector_disk.specs.Disk.{Image, History, MayLeave}
use Rattle.sector_bytes.specs.Bytes.{sector_piece}
use Rattle.generations.specs.Areas.{journal_sectors, area_start, sectors_of}
use Rattle.generations.specs.Sectors.{IsFormat, IsRootOf, IsNoRoot, version_from}
use Rattle.generations.specs.declared.root.Root.{Root}
use Rattle.generations.specs.declared.sizes.TheConstants.{JOURNAL_START, LAST_VERSION}
use Rattle.edit_journal.specs.Records.{RecordData, record_of}
use Rattle.edit_journal.specs.Ring.{Ring, RecordStart, HoldsOnly}
use Rattle.edit_text.specs.Recorded.{RecordedEdit, IsRecorded, recorded_text}
use Rattle.feature_store.specs.Store.{FeatureMap, IsMap, snapshot}
use Rattle.tile_service.specs.After.{after}
use Rattle.area_content.specs.Tiles.{HasNoTile, IsArchiveOfMap}
use Rattle.map_metadata.specs.Metadata.{IsMetadata}
use Rattle.serde_json.specs.Data.{Data}
use Rattle.serde_json.specs.Read.{read}

-- the text reads as the metadata of the map
abbrev pub TellsOf : FeatureMap → List ℕ → Type 0
TellsOf m text = (d : Data) × IsMetadata m d × (read text ≡ Some d)

-- the bytes are an archive of exactly the tiles of the map, with its metadata, or empty if the map has no tile
abbrev pub IsMapArchive : FeatureMap → List ℕ → Type 0
IsMapArchive m bytes = (HasNoTile m × (bytes ≡ [])) ⊎ ((metadata : List ℕ) × TellsOf m metadata × IsArchiveOfMap m metadata bytes)

-- what a disk holds for a service
pub record Stored : Type 0 where
  -- the version of the disk's format
  pub version : ℕ
  -- how often an archive was installed
  pub generation : ℕ
  -- the map of the snapshot
  pub snapshot_map : FeatureMap
  -- how many edits are in it
  pub edits : ℕ
  -- the edits since, each with the version of its record
  pub since : List RecordedEdit
  -- the place in the journal of their first record
  pub journal_at : ℕ
  -- the bytes of the archive
  pub archive : List ℕ

-- the map that it represents
abbrev pub map_of : Stored → FeatureMap
map_of stored = after stored.snapshot_map stored.since

-- the number of the last edit
abbrev pub last_of : Stored → ℕ
last_of stored = stored.edits + length stored.since

-- the root that names it
abbrev pub root_of : Stored → Root
root_of stored = record {
  generation = stored.generation;
  edits = stored.edits;
  journal_at = stored.journal_at;
  snapshot_len = length (snapshot stored.snapshot_map);
  archive_len = length stored.archive;
}

-- ---- where it is stored, on a disk of n sectors

-- the journal begins after the sectors of the format and of the two roots
abbrev pub journal_ring : ℕ → Ring
journal_ring n = record { first = JOURNAL_START; places = journal_sectors n }

-- The bytes are stored in consecutive sectors from first on: this sector has its part of them, with anything after their end.
abbrev pub HasBytes : (first : ℕ) → List ℕ → (at : ℕ) → List ℕ → Type 0
HasBytes first bytes at sector = (index : ℕ) → at ≡ first + index → take (length (sector_piece bytes index)) sector ≡ sector_piece bytes index

-- the sector of the other parity has no root, or one of an earlier generation
abbrev pub HasEarlierRoot : (n generation : ℕ) → List ℕ → Type 0
HasEarlierRoot n generation sector = IsNoRoot sector ⊎ ((root : Root) × (root.generation < generation) × IsRootOf n (suc generation % 2) sector root)

-- what a sector has, outside the journal
pub record HoldsAt (count n : ℕ) (stored : Stored) (at : ℕ) (sector : List ℕ) : Type 0 where
  pub format : at ≡ 0 → IsFormat count sector n
  pub version : at ≡ 0 → version_from sector ≡ stored.version
  pub live : at ≡ 1 + stored.generation % 2 → IsRootOf n (stored.generation % 2) sector (root_of stored)
  pub other : at ≡ 1 + suc stored.generation % 2 → HasEarlierRoot n stored.generation sector
  pub snapshot_bytes : HasBytes (area_start n stored.generation) (snapshot stored.snapshot_map) at sector
  pub archive_bytes : HasBytes (area_start n stored.generation + sectors_of (length (snapshot stored.snapshot_map))) stored.archive at sector

-- the record of an edit
abbrev pub record_for : RecordedEdit → RecordData
record_for e = record_of e.version (recorded_text e)

-- the records of the edits since the snapshot
abbrev pub stored_records : Stored → List RecordData
stored_records stored = map record_for stored.since

-- the edit can be recorded on a disk of this version
pub record CanRecord (version : ℕ) (e : RecordedEdit) : Type 0 where
  pub recorded : IsRecorded e
  pub version_is : e.version ≤ version

-- where its journal begins
abbrev pub journal_start : Stored → RecordStart
journal_start stored = record { place = stored.journal_at; number = suc stored.edits }

-- The image of a disk of count sectors, formatted with n, holds this.
pub record Holds (count n : ℕ) (stored : Stored) (image : Image) : Type 0 where
  pub sectors : (at : ℕ) → HoldsAt count n stored at (image at)
  pub journal : HoldsOnly (journal_ring n) (journal_start stored) (stored_records stored) image
  pub is_map : IsMap stored.snapshot_map
  pub are_edits : All (CanRecord stored.version) stored.since
  pub is_archive : IsMapArchive stored.snapshot_map stored.archive

-- the state after a format, without edits
abbrev pub first_state : Stored
first_state = record { version = LAST_VERSION; generation = 0; snapshot_map = []; edits = 0; since = []; journal_at = 0; archive = [] }

-- the same with one more edit
abbrev pub with_edit : Stored → RecordedEdit → Stored
with_edit stored edit = record stored { since = stored.since ++ edit ∷ [] }

-- the same on a disk that is upgraded to the last version
abbrev pub upgraded : Stored → Stored
upgraded stored = record stored { version = LAST_VERSION }

-- every image that a crash now may leave holds it
abbrev pub Keeps : (count n : ℕ) → Stored → History → Type 0
Keeps count n stored history = (image : Image) → MayLeave history image → Holds count n stored image
