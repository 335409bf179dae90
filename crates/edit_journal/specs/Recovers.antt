-- What a ring of sectors says of a journal.
use Rattle.std.specs.Prelude.{◌≡◌, ◌⊎◌, ◌<◌, ◌≤◌, ◌+◌, ◌^◌, ℕ, List, Result, MatchResult, length}
use Rattle.sector_disk.specs.Disk.{Image, HasFailed}
use Rattle.edit_journal.specs.Records.{RecordData, IsRecordLength, AreUpTo, parts_of, HasFront, IsPart, IsExpectedHead}
use Rattle.edit_journal.specs.Ring.{Ring, RecordStart, sector_at, places_of, HoldsRecords}
use Rattle.edit_journal.specs.declared.fault.JournalFault.{JournalFault}
use Rattle.edit_journal.specs.declared.fault.JournalFault.TheVariants.{NumbersSpent, Full, Device, Damaged, Memory}

-- The journal ends here, on a disk that allows versions up to this one: all places are used, the numbers are spent, or the next sector is no
-- head of the next number in an allowed version.
abbrev pub EndsAt : (most : ℕ) → Ring → (place used number : ℕ) → Image → Type 0
EndsAt most ring place used number image =
    (ring.places ≤ used) ⊎ (2 ^ 64 ≤ number) ⊎ (IsExpectedHead most number (image (sector_at ring (place + used))) → ⊥)

-- The image has these records from a start on, each in a version that the disk allows, and the journal ends after them.
pub record IsJournal (most : ℕ) (ring : Ring) (start : RecordStart) (held : List RecordData) (image : Image) : Type 0 where
  pub records : HoldsRecords ring start held image
  pub versions : AreUpTo most held
  pub ends : EndsAt most ring start.place (places_of held) (start.number + length held) image

-- each part of the record is stored in its place
abbrev pub PartsStand : Ring → (place used number : ℕ) → RecordData → Image → Type 0
PartsStand ring place used number r image =
    (part : ℕ) → part < parts_of (length r.text) → IsPart r.version number r.text part (image (sector_at ring (place + (used + part))))

-- the front of each part of a record is stored in its place, for a text of this length
abbrev pub FrontsStand : (version : ℕ) → Ring → (place used number bytes : ℕ) → Image → Type 0
FrontsStand version ring place used number bytes image =
    (part : ℕ) → part < parts_of bytes → HasFront version number bytes part (image (sector_at ring (place + (used + part))))

-- the next record is this one, in places that are left
pub record IsNext (ring : Ring) (place used number : ℕ) (r : RecordData) (image : Image) : Type 0 where
  pub length_is : IsRecordLength r.version (length r.text)
  pub room : used + parts_of (length r.text) ≤ ring.places
  pub stands : PartsStand ring place used number r image

-- a record that was expected isn't whole: a place and a number are left, and a head of an allowed version is stored there, but no record is the next
pub record IsDamaged (most : ℕ) (ring : Ring) (place used number : ℕ) (image : Image) : Type 0 where
  pub left : used < ring.places
  pub fits : number < 2 ^ 64
  pub head : IsExpectedHead most number (image (sector_at ring (place + used)))
  pub none : (r : RecordData) → IsNext ring place used number r image → ⊥

-- why a journal isn't recovered, and what that makes of the count of faults
abbrev pub IsRecoverFault : (old new : ℕ) → JournalFault → Type 0
IsRecoverFault old new NumbersSpent = ⊥
IsRecoverFault old new (Full need free) = ⊥
IsRecoverFault old new Device = HasFailed old new
IsRecoverFault old new Damaged = new ≡ old
IsRecoverFault old new Memory = new ≡ old

-- an error says why, and success that no call of the disk failed
abbrev pub TellsRecoverFault : {T : Type 0} → Result T JournalFault → (old new : ℕ) → Type 0
TellsRecoverFault result old new = MatchResult result (λ _. new ≡ old) (IsRecoverFault old new)
