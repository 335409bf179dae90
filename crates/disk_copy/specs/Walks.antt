-- The records of a journal, found one after the other.
use Rattle.std.specs.Prelude.{◌≡◌, ◌≤◌, ◌<◌, ◌+◌, ℕ, List, length, Option, None, Some}
use Rattle.sector_disk.specs.Disk.{Image}
use Rattle.edit_journal.specs.Records.{RecordData, IsRecordLength, parts_of, HasFront, IsHeadOf, IsExpectedHead}
use Rattle.edit_journal.specs.Ring.{places_of}
use Rattle.edit_journal.specs.declared.sizes.TheConstants.{FIRST_RECORD_VERSION}
use Rattle.generations.specs.declared.root.Root.{Root}
use Rattle.generations.specs.Disks.{LiveRoot}
use Rattle.generations.specs.Sectors.{version_from}
use Rattle.disk_copy.specs.Copies.{Copies, IsUsed, IsNamed, IsJournalOf, ring_in}

-- the head of this number has this version, up to the greatest
pub record HasHead (most number version : ℕ) (sector : List ℕ) : Type 0 where
  pub first : FIRST_RECORD_VERSION ≤ version
  pub allowed : version ≤ most
  pub head : IsHeadOf version number sector

-- a record that takes this many places begins in the sector
pub record IsFirstOf (most number free : ℕ) (sector : List ℕ) (parts : ℕ) : Type 0 where
  pub version : ℕ
  pub head : HasHead most number version sector
  pub bytes : ℕ
  pub length_is : IsRecordLength version bytes
  pub front : HasFront version number bytes 0 sector
  pub parts_is : parts ≡ parts_of bytes
  pub fits : parts ≤ free

-- no record begins there, or one that takes this many places
abbrev pub TellsNext : (most number free : ℕ) → List ℕ → Option ℕ → Type 0
TellsNext most number free sector None = IsExpectedHead most number sector → ⊥
TellsNext most number free sector (Some parts) = IsFirstOf most number free sector parts

-- the head is of no record that has room
pub record IsNoNext (most number free : ℕ) (sector : List ℕ) : Type 0 where
  pub version : ℕ
  pub head : HasHead most number version sector
  pub none : (bytes : ℕ) → IsRecordLength version bytes → HasFront version number bytes 0 sector → free < parts_of bytes

-- all records were copied, and the last edit has this number
abbrev pub CopiesAll : (n : ℕ) → Root → List RecordData → (source old new : Image) → (last : ℕ) → Type 0
CopiesAll n root records source old new last = (last ≡ root.edits + length records)
    × Copies (IsUsed (ring_in n) root.journal_at (places_of records)) source old new

-- those of one moment were
abbrev pub CopiesAllShared : (n : ℕ) → Root → (ℕ → List RecordData) → (images : ℕ → Image) → (from to : ℕ) → (old new : Image) → (last : ℕ) → Type 0
CopiesAllShared n root records images from to old new last =
    (moment : ℕ) × (from ≤ moment) × (moment ≤ to) × CopiesAll n root (records moment) (images moment) old new last

-- all that the root names was copied, with all records
abbrev pub CopiesNamed : (n : ℕ) → Root → List RecordData → (source old new : Image) → (last : ℕ) → Type 0
CopiesNamed n root records source old new last = (last ≡ root.edits + length records)
    × Copies (IsNamed n root (places_of records)) source old new

-- as of one moment
abbrev pub CopiesNamedShared : (n : ℕ) → Root → (ℕ → List RecordData) → (images : ℕ → Image) → (from to : ℕ) → (old new : Image) → (last : ℕ) → Type 0
CopiesNamedShared n root records images from to old new last =
    (moment : ℕ) × (from ≤ moment) × (moment ≤ to) × CopiesNamed n root (records moment) (images moment) old new last

-- An image has this live root, and what it names was copied.
pub record IsCopiedFrom (count n version : ℕ) (root : Root) (source old new : Image) (last : ℕ) : Type 0 where
  pub lives : LiveRoot count source n root
  pub version_is : version ≡ version_from (source 0)
  pub records : List RecordData
  pub journal : IsJournalOf n version root records source
  pub copies : CopiesNamed n root records source old new last

-- the image of one moment is such a one
abbrev pub IsCopiedFromOne : (count n version : ℕ) → Root → (images : ℕ → Image) → (from to : ℕ) → (old new : Image) → (last : ℕ) → Type 0
IsCopiedFromOne count n version root images from to old new last =
    (moment : ℕ) × (from ≤ moment) × (moment ≤ to) × IsCopiedFrom count n version root (images moment) old new last
