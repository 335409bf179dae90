-- What is read when a disk is opened, and why opening fails.
use Rattle.std.specs.Prelude.{◌≡◌, ◌⊎◌, ◌+◌, ℕ, List, length}
use Rattle.sector_disk.specs.Disk.{Image}
use Rattle.sector_bytes.specs.Bytes.{StandsIn}
use Rattle.generations.specs.Areas.{area_start}
use Rattle.generations.specs.Disks.{LiveRoot, IsFaultOf}
use Rattle.generations.specs.Sectors.{version_from}
use Rattle.generations.specs.declared.root.Root.{Root}
use Rattle.generations.specs.declared.fault.StoreFault.{StoreFault}
use Rattle.generations.specs.declared.fault.StoreFault.TheVariants.{NotFormatted, TooSmall, Damaged, Device, Memory}
use Rattle.generations.specs.declared.fault.What.TheVariants.{Size, RootSector, Snapshot, Journal, Text}
use Rattle.edit_journal.specs.Appends.{start_of}
use Rattle.edit_journal.specs.Recovers.{IsJournal}
use Rattle.edit_journal.specs.Ring.{places_of}
use Rattle.edit_journal.specs.declared.fault.JournalFault.{JournalFault}
use Rattle.edit_journal.specs.declared.fault.JournalFault.TheVariants as faults
use Rattle.edit_journal.specs.declared.journal.Journal as journals
use Rattle.edit_journal.specs.Records.{RecordData}
use Rattle.edit_text.specs.Recorded.{RecordedEdit}
use Rattle.feature_store.specs.Store.{FeatureMap, IsMap, snapshot}
use Rattle.tile_service.specs.After.{after}
use Rattle.tile_service.specs.Replayed.{AreRecordsFor}
use Rattle.tile_service.specs.Service.{ServiceView}
use Rattle.tile_service.specs.Stored.{journal_ring}
use Rattle.tile_service.specs.Tiles.{WereMaps}

-- the records are those of the journal that the root names, on a disk of this version
abbrev pub IsJournalOf : (n version : ℕ) → Root → List RecordData → Image → Type 0
IsJournalOf n version root records image = IsJournal version (journal_ring n) (start_of root.journal_at root.edits) records image

-- the map whose snapshot is in the area of the root
pub record HasSnapshot (n : ℕ) (root : Root) (m : FeatureMap) (image : Image) : Type 0 where
  pub is_map : IsMap m
  pub len : length (snapshot m) ≡ root.snapshot_len
  pub stands : StandsIn (area_start n root.generation) (snapshot m) image

-- The snapshot and the journal that the root names, and the map after the journal's edits, with the newest of them for each cell of the
-- world.
pub record IsReplayed (n version : ℕ) (root : Root) (image : Image) (journal : journals.Journal) (features : FeatureMap) (touched : List ℕ) : Type 0 where
  pub snapshot_map : FeatureMap
  pub has_snapshot : HasSnapshot n root snapshot_map image
  pub records : List RecordData
  pub edits : List RecordedEdit
  pub are_records : IsJournalOf n version root records image
  pub are_edits : AreRecordsFor records edits
  pub place_is : journal.place ≡ root.journal_at
  pub edits_are : journal.edits ≡ root.edits
  pub used_is : journal.used ≡ places_of records
  pub last_is : journal.last ≡ root.edits + length records
  pub map_is : features ≡ after snapshot_map edits
  pub were : WereMaps features touched journal.last root.edits snapshot_map edits

-- what a disk of this many sectors has: a version, a live root, and the map after its journal
pub record IsRead (sectors n version : ℕ) (image : Image) (root : Root) (journal : journals.Journal) (features : FeatureMap) (touched : List ℕ) : Type 0 where
  pub live : LiveRoot sectors image n root
  pub version_is : version ≡ version_from (image 0)
  pub replayed : IsReplayed n version root image journal features touched

-- The service has exactly what such a disk has: its version, the live root, and the map after its journal.
pub record IsOpened {D : Type 0} (sectors : ℕ) (image : Image) (service : ServiceView D) : Type 0 where
  pub root : Root
  pub read : IsRead sectors service.size service.version image root service.journal service.features service.touched
  pub generation_is : service.generation ≡ root.generation
  pub snapshot_len_is : service.snapshot_len ≡ root.snapshot_len
  pub archive_len_is : service.archive_len ≡ root.archive_len

-- The damage to what the root names on a disk of this version, in the order of reading: there is no snapshot of a map; there is one,
-- and a record of the journal isn't whole; there is one, and a record in the journal isn't that of an edit.
abbrev pub IsContentFault : (n version : ℕ) → Root → Image → StoreFault → Type 0
IsContentFault n version root image NotFormatted = ⊥
IsContentFault n version root image TooSmall = ⊥
IsContentFault n version root image (Damaged Size) = ⊥
IsContentFault n version root image (Damaged RootSector) = ⊥
IsContentFault n version root image (Damaged Snapshot) = (m : FeatureMap) → HasSnapshot n root m image → ⊥
IsContentFault n version root image (Damaged Journal) =
    (m : FeatureMap) × HasSnapshot n root m image × ((records : List RecordData) → IsJournalOf n version root records image → ⊥)
IsContentFault n version root image (Damaged Text) =
    (m : FeatureMap) × HasSnapshot n root m image × (records : List RecordData) × IsJournalOf n version root records image
    × ((edits : List RecordedEdit) → AreRecordsFor records edits → ⊥)
IsContentFault n version root image Device = ⊥
IsContentFault n version root image Memory = ⊥

-- the faults of a disk of this many sectors
abbrev pub IsOpenFault : (sectors : ℕ) → Image → StoreFault → Type 0
IsOpenFault sectors image fault =
    IsFaultOf sectors image fault ⊎ ((n : ℕ) × (root : Root) × LiveRoot sectors image n root × IsContentFault n (version_from (image 0)) root image fault)

-- the disk has no such fault
abbrev pub HasNoOpenFault : (sectors : ℕ) → Image → Type 0
HasNoOpenFault sectors image = (fault : StoreFault) → IsOpenFault sectors image fault → ⊥

-- the disk has a live root, so that only what the root names can be damaged
abbrev pub HasLiveRoot : (sectors : ℕ) → Image → Type 0
HasLiveRoot sectors image = (n : ℕ) × (root : Root) × LiveRoot sectors image n root

-- the store fault for a recovery's fault
abbrev pub recovery_told_as : JournalFault → StoreFault
recovery_told_as faults.NumbersSpent = Damaged Journal
recovery_told_as (faults.Full need free) = Damaged Journal
recovery_told_as faults.Device = Device
recovery_told_as faults.Damaged = Damaged Journal
recovery_told_as faults.Memory = Memory
