-- Why no copy was made, and what that says of the calls of the two disks.
use Rattle.std.specs.Prelude.{◌≡◌, ◌⊎◌, ◌<◌, ℕ, List, Result, MatchResult}
use Rattle.sector_disk.specs.Disk.{Image, HasFailed}
use Rattle.edit_journal.specs.Records.{RecordData}
use Rattle.edit_journal.specs.declared.fault.JournalFault.{JournalFault}
use Rattle.edit_journal.specs.declared.fault.JournalFault.TheVariants as journals
use Rattle.generations.specs.Disks.{LiveRoot, IsFaultOf}
use Rattle.generations.specs.Faults.{CountsDevice}
use Rattle.generations.specs.Sectors.{version_from}
use Rattle.generations.specs.declared.fault.StoreFault.{StoreFault}
use Rattle.generations.specs.declared.fault.StoreFault.TheVariants as stores
use Rattle.generations.specs.declared.fault.What.TheVariants as parts
use Rattle.generations.specs.declared.root.Root.{Root}
use Rattle.disk_copy.specs.Copies.{IsJournalOf}
use Rattle.disk_copy.specs.declared.fault.CopyFault.{CopyFault}
use Rattle.disk_copy.specs.declared.fault.CopyFault.TheVariants.{Store, Moved, Write}

-- With Device a call of the disk has failed, with Write one of the other disk, and else none has.
abbrev pub CountsCopy : CopyFault → (old new other_old other_new : ℕ) → Type 0
CountsCopy (Store fault) old new other_old other_new = CountsDevice fault old new × (other_new ≡ other_old)
CountsCopy Moved old new other_old other_new = (new ≡ old) × (other_new ≡ other_old)
CountsCopy Write old new other_old other_new = (new ≡ old) × HasFailed other_old other_new

-- The fault of a result says which call has failed, and success says that none has.
abbrev pub TellsCopy : {T : Type 0} → Result T CopyFault → (old new other_old other_new : ℕ) → Type 0
TellsCopy result old new other_old other_new =
    MatchResult result (λ _. (new ≡ old) × (other_new ≡ other_old)) (λ fault. CountsCopy fault old new other_old other_new)

-- the fault for one of the journal
abbrev pub told_as : JournalFault → CopyFault
told_as journals.NumbersSpent = Store (stores.Damaged parts.Journal)
told_as (journals.Full need free) = Store (stores.Damaged parts.Journal)
told_as journals.Device = Store stores.Device
told_as journals.Damaged = Store (stores.Damaged parts.Journal)
told_as journals.Memory = Store stores.Memory

-- the fault of a disk in memory, where no call fails
abbrev pub in_memory : StoreFault → CopyFault
in_memory stores.Device = Store stores.Memory
in_memory stores.NotFormatted = Store stores.NotFormatted
in_memory stores.TooSmall = Store stores.TooSmall
in_memory (stores.Damaged what) = Store (stores.Damaged what)
in_memory stores.Memory = Store stores.Memory

-- why the records that a root names aren't found
abbrev pub IsRecordsFault : (n version : ℕ) → Root → Image → CopyFault → Type 0
IsRecordsFault n version root image fault = (fault ≡ Store stores.Device) ⊎ (fault ≡ Store stores.Memory)
    ⊎ ((fault ≡ Store (stores.Damaged parts.Journal)) × ((records : List RecordData) → IsJournalOf n version root records image → ⊥))

-- a call of a disk failed, or an allocation
abbrev pub IsOutside : CopyFault → Type 0
IsOutside fault = (fault ≡ Store stores.Device) ⊎ (fault ≡ Store stores.Memory) ⊎ (fault ≡ Write)

-- the disk has no live root, for this fault
abbrev pub IsRootFault : (sectors : ℕ) → Image → CopyFault → Type 0
IsRootFault sectors image fault = (why : StoreFault) × (fault ≡ Store why) × IsFaultOf sectors image why

-- the live root's journal has a record that isn't whole
abbrev pub IsJournalFault : (sectors : ℕ) → Image → CopyFault → Type 0
IsJournalFault sectors image fault = (n : ℕ) × (root : Root) × LiveRoot sectors image n root
    × IsRecordsFault n (version_from (image 0)) root image fault

-- the other disk has fewer sectors than the live root's
abbrev pub IsTooLarge : (sectors size : ℕ) → Image → CopyFault → Type 0
IsTooLarge sectors size image fault = (n : ℕ) × (root : Root) × LiveRoot sectors image n root × (size < n) × (fault ≡ Moved)

-- Why a disk of this many sectors with this image isn't copied to one of that size.
abbrev pub IsCopyFault : (sectors size : ℕ) → Image → CopyFault → Type 0
IsCopyFault sectors size image fault = IsOutside fault ⊎ IsRootFault sectors image fault ⊎ IsJournalFault sectors image fault
    ⊎ IsTooLarge sectors size image fault
