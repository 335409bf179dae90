-- What an append leaves of a journal, at each moment.
use Rattle.std.specs.Prelude.{◌≡◌, ◌⊎◌, ◌<◌, ◌≤◌, ◌+◌, ◌-◌, ◌^◌, ◌==◌, if◌then◌else◌, ℕ, List, [], ◌∷◌, ◌++◌, length}
use Rattle.std.proofs.Common.{suc}
use Rattle.sector_disk.specs.Disk.{History, Image, MayHold, MayLeave, HasFailed}
use Rattle.sector_disk.specs.Disk.History.{begun, wrote, tried, synced}
use Rattle.edit_journal.specs.Records.{RecordData, parts_of, record_sector}
use Rattle.edit_journal.specs.Ring.{Ring, RecordStart, sector_at, places_of, HoldsOnly}
use Rattle.edit_journal.specs.declared.journal.Journal.{Journal}
use Rattle.edit_journal.specs.declared.fault.JournalFault.{JournalFault}
use Rattle.edit_journal.specs.declared.fault.JournalFault.TheVariants.{NumbersSpent, Full, Device, Damaged, Memory}

-- the ring that a journal is in
abbrev pub ring_of : Journal → Ring
ring_of journal = record { first = journal.first; places = journal.places }

-- where the records in use begin
abbrev pub start_of : (place edits : ℕ) → RecordStart
start_of place edits = record { place = place; number = suc edits }

-- Each image that a crash now may leave holds these records, which take the places in use and have the numbers up to the last.
pub record Keeps (ring : Ring) (place edits used last : ℕ) (records : List RecordData) (history : History) : Type 0 where
  pub keeps : (image : Image) → MayLeave history image → HoldsOnly ring (start_of place edits) records image
  pub uses : used ≡ places_of records
  pub counts : last ≡ edits + length records

-- the journal has these records on the disk
abbrev pub IsAt : List RecordData → Journal → History → Type 0
IsAt records journal history = Keeps (ring_of journal) journal.place journal.edits journal.used journal.last records history

-- the sector is one of the ring's that no record in use has
abbrev pub IsFree : Ring → (place used at : ℕ) → Type 0
IsFree ring place used at = (offset : ℕ) × (used ≤ offset) × (offset < ring.places) × (at ≡ sector_at ring (place + offset))

-- each other sector has what it might have had before
abbrev pub AsBefore : Ring → (place used : ℕ) → History → Image → Type 0
AsBefore ring place used old image = (at : ℕ) → (IsFree ring place used at → ⊥) → MayHold old at (image at)

-- a read gives of each other sector what it gave
abbrev pub ReadsAsBefore : Ring → (place used : ℕ) → (old new : Image) → Type 0
ReadsAsBefore ring place used old new = (at : ℕ) → (IsFree ring place used at → ⊥) → new at ≡ old at

-- the sector is that of one of the next record's parts, which follow the places in use
abbrev pub IsNew : Ring → (place used parts at : ℕ) → Type 0
IsNew ring place used parts at = (part : ℕ) × (part < parts) × (at ≡ sector_at ring (place + (used + part)))

-- a read gives of each sector but these what it gave
abbrev pub ReadsBeside : Ring → (place used parts : ℕ) → (old new : Image) → Type 0
ReadsBeside ring place used parts old new = (at : ℕ) → (IsNew ring place used parts at → ⊥) → new at ≡ old at

-- the image holds the records, or the records with this one
abbrev pub HoldsOneMore : Ring → RecordStart → List RecordData → RecordData → Image → Type 0
HoldsOneMore ring start records r image = HoldsOnly ring start records image ⊎ HoldsOnly ring start (records ++ r ∷ []) image

-- in the sector is stored what might have stood there, or a body of the record
abbrev pub OldOrBody : History → Ring → (place used number : ℕ) → RecordData → (at : ℕ) → List ℕ → Type 0
OldOrBody old ring place used number r at sector = MayHold old at sector ⊎ ((part : ℕ) × (0 < part) × (part < parts_of (length r.text))
    × (at ≡ sector_at ring (place + (used + part))) × (sector ≡ record_sector r.version number r.text part))

-- whatever a crash leaves, the bodies are stored
abbrev pub BodiesStand : History → Ring → (place used number : ℕ) → RecordData → Type 0
BodiesStand history ring place used number r = (part : ℕ) (sector : List ℕ) → 0 < part → part < parts_of (length r.text)
    → MayHold history (sector_at ring (place + (used + part))) sector → sector ≡ record_sector r.version number r.text part

-- how many writes there have been
abbrev pub writes_in : History → ℕ
writes_in (begun start) = 0
writes_in (wrote sector bytes before) = suc (writes_in before)
writes_in (tried sector bytes before) = suc (writes_in before)
writes_in (synced before) = writes_in before

-- how many syncs there have been
abbrev pub syncs_in : History → ℕ
syncs_in (begun start) = 0
syncs_in (wrote sector bytes before) = syncs_in before
syncs_in (tried sector bytes before) = syncs_in before
syncs_in (synced before) = suc (syncs_in before)

-- how many syncs a record of this count of parts takes: one after its bodies, if it has any, and one after its head
abbrev pub syncs_of : ℕ → ℕ
syncs_of parts = if parts == 1 then 1 else 2

-- what a record of this count of parts takes: a write for each of them, and its syncs
pub record TakesSteps (parts : ℕ) (old new : History) : Type 0 where
  pub writes : writes_in new ≡ writes_in old + parts
  pub syncs : syncs_in new ≡ syncs_in old + syncs_of parts

-- why an append of this count of parts fails, and what it makes of the count of faults
abbrev pub IsAppendFault : Journal → (parts old new : ℕ) → JournalFault → Type 0
IsAppendFault journal parts old new NumbersSpent = (journal.last ≡ 2 ^ 64 - 1) × (new ≡ old)
IsAppendFault journal parts old new (Full need free) = (journal.last < 2 ^ 64 - 1) × (need ≡ parts) × (free ≡ journal.places - journal.used)
    × (free < need) × (new ≡ old)
IsAppendFault journal parts old new Device = (journal.last < 2 ^ 64 - 1) × (parts ≤ journal.places - journal.used) × HasFailed old new
IsAppendFault journal parts old new Damaged = ⊥
IsAppendFault journal parts old new Memory = ⊥
