-- What a publication leaves on a disk: the map after some of the edits as the next snapshot, with its archive.
use Rattle.std.specs.Prelude.{◌≡◌, ◌<◌, ◌≤◌, ◌+◌, ◌^◌, ◌%◌, ℕ, List, length, take, drop, ⊤}
use Rattle.std.proofs.Common.{suc}
use Rattle.sector_disk.specs.Disk.{Image, History, seen}
use Rattle.sector_bytes.specs.Bytes.{sector_piece}
use Rattle.generations.specs.Areas.{journal_sectors, area_sectors, area_start, sectors_of}
use Rattle.edit_journal.specs.Ring.{places_of}
use Rattle.feature_store.specs.Store.{FeatureMap, IsMap, snapshot}
use Rattle.tile_service.specs.After.{after}
use Rattle.tile_service.specs.Stored.{Stored, HasBytes, IsMapArchive, stored_records}
use Rattle.area_content.specs.Faults.{HasManyTiles, IsFull}
use Rattle.area_content.specs.declared.fault.ContentFault.{ContentFault}
use Rattle.area_content.specs.declared.fault.ContentFault.TheVariants as contents
use Rattle.map_metadata.specs.Metadata.{IsMetadata}
use Rattle.serde_json.specs.Data.{Data}
use Rattle.serde_json.specs.Written.{compact_text}
use Rattle.tile_service.specs.declared.fault.ServiceFault.{ServiceFault}
use Rattle.tile_service.specs.declared.fault.ServiceFault.TheVariants.{Broken, Busy, Idle, NeedsUpgrade, Limit, NotFound, NumbersSpent, Memory}
use Rattle.tile_service.specs.declared.fault.ServiceFault.TheVariants.{TooManyTiles, AreaFull, JournalFull, Device}

-- the map that is published: that after the first edits since the last snapshot
abbrev pub map_at : Stored → (count : ℕ) → FeatureMap
map_at stored count = after stored.snapshot_map (take count stored.since)

-- the stored state once it is installed with its archive: the other edits are those since it
abbrev pub published : (n : ℕ) → Stored → (count : ℕ) → (archive : List ℕ) → Stored
published n stored count archive = record {
  version = stored.version;
  generation = suc stored.generation;
  snapshot_map = map_at stored count;
  edits = stored.edits + count;
  since = drop count stored.since;
  journal_at = (stored.journal_at + places_of (take count (stored_records stored))) % journal_sectors n;
  archive = archive;
}

-- It can be published like this on a disk of n sectors.
pub record CanPublish (n : ℕ) (stored : Stored) (count : ℕ) (archive : List ℕ) : Type 0 where
  pub within : count ≤ length stored.since
  pub is_map : IsMap (map_at stored count)
  pub is_archive : IsMapArchive (map_at stored count) archive
  pub area : sectors_of (length (snapshot (map_at stored count))) + sectors_of (length archive) ≤ area_sectors n
  pub generation : suc stored.generation < 2 ^ 64

-- the sector is one of the area of a generation
abbrev pub IsInArea : (n generation at : ℕ) → Type 0
IsInArea n generation at = (area_start n generation ≤ at) × (at < area_start n generation + area_sectors n)

-- outside the area of a generation the two images are equal
abbrev pub IsBeside : (n generation : ℕ) → (before image : Image) → Type 0
IsBeside n generation before image = (at : ℕ) → (IsInArea n generation at → ⊥) → image at ≡ before at

-- the bytes of a snapshot and of an archive are in the area of a generation
pub record HasArea (n generation : ℕ) (snapshot_bytes archive_bytes : List ℕ) (image : Image) : Type 0 where
  pub snapshot_stands : (at : ℕ) → HasBytes (area_start n generation) snapshot_bytes at (image at)
  pub archive_stands : (at : ℕ) → HasBytes (area_start n generation + sectors_of (length snapshot_bytes)) archive_bytes at (image at)

-- ---- an area that is being written

-- the sector begins with these bytes
abbrev pub BeginsWith : List ℕ → List ℕ → Type 0
BeginsWith bytes sector = take (length bytes) sector ≡ bytes

-- The sector is the one at this index of a snapshot and then an archive, each starting at a sector.
pub record IsContentSector (snapshot_bytes archive_bytes : List ℕ) (index : ℕ) (sector : List ℕ) : Type 0 where
  pub of_snapshot : BeginsWith (sector_piece snapshot_bytes index) sector
  pub of_archive : (behind : ℕ) → index ≡ sectors_of (length snapshot_bytes) + behind → BeginsWith (sector_piece archive_bytes behind) sector

-- this many first sectors of the content are in the area of a generation
abbrev pub HasFirst : (n generation : ℕ) → (snapshot_bytes archive_bytes : List ℕ) → (written : ℕ) → Image → Type 0
HasFirst n generation snapshot_bytes archive_bytes written image =
    (index : ℕ) → index < written → IsContentSector snapshot_bytes archive_bytes index (image (area_start n generation + index))

-- A publication is under way: reads return this many first sectors of what can be published.
pub record IsUnderWay (n : ℕ) (stored : Stored) (count : ℕ) (archive : List ℕ) (written : ℕ) (history : History) : Type 0 where
  pub can : CanPublish n stored count archive
  pub first : HasFirst n (suc stored.generation) (snapshot (map_at stored count)) archive written (seen history)

-- ---- a map that can't be published

-- the service fault for a content fault
abbrev pub told_content : ContentFault → ServiceFault
told_content contents.TooManyTiles = TooManyTiles
told_content (contents.AreaFull need free) = AreaFull need free
told_content contents.Memory = Memory

-- why a map has no content for an area of this many sectors
abbrev pub HasNoContent : FeatureMap → (area : ℕ) → ServiceFault → Type 0
HasNoContent m area Broken = ⊥
HasNoContent m area Busy = ⊥
HasNoContent m area Idle = ⊥
HasNoContent m area NeedsUpgrade = ⊥
HasNoContent m area (Limit fault) = ⊥
HasNoContent m area NotFound = ⊥
HasNoContent m area NumbersSpent = ⊥
HasNoContent m area Memory = ⊤
HasNoContent m area TooManyTiles = HasManyTiles m
HasNoContent m area (AreaFull need free) = (d : Data) × IsMetadata m d × IsFull m (compact_text d) area need free
HasNoContent m area (JournalFull need free) = ⊥
HasNoContent m area Device = ⊥
