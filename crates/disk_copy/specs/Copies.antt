-- A copy of a disk: it has what the live root names, and zeros in every other sector.
use Rattle.std.specs.Prelude.{◌≡◌, ◌⊎◌, ◌≤◌, ◌<◌, ◌+◌, ℕ, List, length}
use Rattle.sector_disk.specs.Disk.{History, Image, MayLeave}
use Rattle.edit_journal.specs.Records.{RecordData}
use Rattle.edit_journal.specs.Appends.{start_of}
use Rattle.edit_journal.specs.Recovers.{IsJournal}
use Rattle.edit_journal.specs.Ring.{Ring, sector_at, places_of, HoldsOnly}
use Rattle.generations.specs.Areas.{area_start, journal_sectors, sectors_of}
use Rattle.generations.specs.Disks.{LiveRoot}
use Rattle.generations.specs.Installs.{root_at}
use Rattle.generations.specs.Sectors.{zeros, version_from}
use Rattle.generations.specs.declared.root.Root.{Root}
use Rattle.generations.specs.declared.sizes.TheConstants.{JOURNAL_START}

-- the ring of this many sectors, from a first one on
abbrev pub ring_from : (first places : ℕ) → Ring
ring_from first places = record { first = first; places = places }

-- the ring of the journal on a disk of n sectors
abbrev pub ring_in : (n : ℕ) → Ring
ring_in n = ring_from JOURNAL_START (journal_sectors n)

-- the records are those of the journal that a root names, on a disk of n sectors and of this version
abbrev pub IsJournalOf : (n version : ℕ) → Root → List RecordData → Image → Type 0
IsJournalOf n version root records image = IsJournal version (ring_in n) (start_of root.journal_at root.edits) records image

-- the sector is one of count sectors, from a first one on
abbrev pub IsIn : (first count at : ℕ) → Type 0
IsIn first count at = (first ≤ at) × (at < first + count)

-- the sector is that of one of the first `used` places of a ring, from a place on
abbrev pub IsUsed : Ring → (place used at : ℕ) → Type 0
IsUsed ring place used at = (offset : ℕ) × (offset < used) × (at ≡ sector_at ring (place + offset))

-- what was copied: each of these sectors is as this says, and each other one is as it was
abbrev pub CopiesAs : (ℕ → List ℕ → Type 0) → (ℕ → Type 0) → (old new : Image) → Type 0
CopiesAs is range old new = (at : ℕ) → (range at × is at (new at)) ⊎ ((range at → ⊥) × (new at ≡ old at))

-- the same where each of these sectors is that of the source
abbrev pub Copies : (ℕ → Type 0) → (source old new : Image) → Type 0
Copies range source old new = CopiesAs (λ at bytes. bytes ≡ source at) range old new

-- the sector is the format's, the root's own, or one of the area that its snapshot and archive take
abbrev pub IsFront : (n : ℕ) → Root → (at : ℕ) → Type 0
IsFront n root at = (IsIn 0 1 at ⊎ IsIn (root_at root.generation) 1 at)
    ⊎ IsIn (area_start n root.generation) (sectors_of root.snapshot_len + sectors_of root.archive_len) at

-- The root of a disk of n sectors names the sector: it is one of these, or that of one of the first `used` places of the journal.
abbrev pub IsNamed : (n : ℕ) → Root → (used at : ℕ) → Type 0
IsNamed n root used at = IsFront n root at ⊎ IsUsed (ring_in n) root.journal_at used at

-- each sector is empty
abbrev pub IsEmpty : Image → Type 0
IsEmpty image = (at : ℕ) → image at ≡ zeros

-- The image has what the root names, and else nothing.
abbrev pub IsCopyOf : (n : ℕ) → Root → (used : ℕ) → (source image : Image) → Type 0
IsCopyOf n root used source image =
    (at : ℕ) → (IsNamed n root used at × (image at ≡ source at)) ⊎ ((IsNamed n root used at → ⊥) × (image at ≡ zeros))

-- the records of the journal that the root names have this many places, and the last edit has this number
abbrev pub HasRecords : (n version : ℕ) → Root → (used last : ℕ) → Image → Type 0
HasRecords n version root used last image = (records : List RecordData) × IsJournalOf n version root records image
    × (used ≡ places_of records) × (last ≡ root.edits + length records)

-- Every image that a crash now may leave is a copy of what the live root of a disk of this many sectors names, with all records of its journal: the
-- copy has this live root, and these records and no others. The last edit has this number.
pub record IsCopied (sectors : ℕ) (source : Image) (last : ℕ) (history : History) : Type 0 where
  pub n : ℕ
  pub root : Root
  pub used : ℕ
  pub live : LiveRoot sectors source n root
  pub records : HasRecords n (version_from (source 0)) root used last source
  pub copies : (image : Image) → MayLeave history image → IsCopyOf n root used source image
  pub opens : (image : Image) → MayLeave history image
      → LiveRoot n image n root × HoldsOnly (ring_in n) (start_of root.journal_at root.edits) records.0 image
