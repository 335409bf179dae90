-- Records in a ring of sectors, and the images that hold them.
use Rattle.std.specs.Prelude.{◌≡◌, ◌<◌, ◌≤◌, ◌+◌, ◌^◌, ◌%◌, ℕ, List, [], ◌∷◌, length}
use Rattle.std.proofs.Common.{suc}
use Rattle.sector_disk.specs.Disk.{Image}
use Rattle.edit_journal.specs.Records.{RecordData, IsRecordVersion, IsRecordLength, parts_of, IsPart, IsHeadOf}

-- the sectors of a ring: this many places, from its first sector on
pub record Ring : Type 0 where
  pub first : ℕ
  pub places : ℕ

-- where records begin: the place and the number of the first
pub record RecordStart : Type 0 where
  pub place : ℕ
  pub number : ℕ

-- the sector of a place, where place 0 comes after the last place
abbrev pub sector_at : Ring → ℕ → ℕ
sector_at ring place = ring.first + place % ring.places

-- the sector is one of the ring's
abbrev pub IsInRing : Ring → ℕ → Type 0
IsInRing ring at = (ring.first ≤ at) × (at < ring.first + ring.places)

-- where the records after this one begin
abbrev pub start_behind : RecordStart → RecordData → RecordStart
start_behind start r = record { place = start.place + parts_of (length r.text); number = suc start.number }

-- each record has a version and a length that a record may have
abbrev pub AreRecords : List RecordData → Type 0
AreRecords [] = Unit {0}
AreRecords (r ∷ records) = IsRecordLength r.version (length r.text) × AreRecords records

-- how many places the records take
abbrev pub places_of : List RecordData → ℕ
places_of [] = 0
places_of (r ∷ records) = parts_of (length r.text) + places_of records

-- The parts of the records are stored in consecutive places, by ascending numbers, each part in its record's version: this sector is as they say.
abbrev pub StandsAt : Ring → RecordStart → List RecordData → (at : ℕ) → List ℕ → Type 0
StandsAt ring start [] at sector = Unit {0}
StandsAt ring start (r ∷ records) at sector =
    ((part : ℕ) → part < parts_of (length r.text) → at ≡ sector_at ring (start.place + part) → IsPart r.version start.number r.text part sector)
    × StandsAt ring (start_behind start r) records at sector

-- The image has these records from a start on, and the ring has room for them.
pub record HoldsRecords (ring : Ring) (start : RecordStart) (records : List RecordData) (image : Image) : Type 0 where
  pub lengths : AreRecords records
  pub room : places_of records ≤ ring.places
  pub numbers : start.number + length records ≤ 2 ^ 64
  pub stand : (at : ℕ) → StandsAt ring start records at (image at)

-- No sector of the ring is the head of a record from this number on, of any version: also of one that the disk's version doesn't allow yet.
abbrev pub NoLaterHead : Ring → ℕ → Image → Type 0
NoLaterHead ring next image =
    (at version later : ℕ) → IsInRing ring at → IsRecordVersion version → next ≤ later → IsHeadOf version later (image at) → ⊥

-- The image has these records from a start on, and none after them.
pub record HoldsOnly (ring : Ring) (start : RecordStart) (held : List RecordData) (image : Image) : Type 0 where
  pub records : HoldsRecords ring start held image
  pub last : NoLaterHead ring (start.number + length held) image
