-- Records that the ring still has before those in use.
use Rattle.std.specs.Prelude.{◌≡◌, ◌<◌, ◌≤◌, ◌+◌, ◌-◌, ◌/◌, ◌%◌, ℕ, List, drop}
use Rattle.sector_disk.specs.Disk.{History}
use Rattle.edit_journal.specs.declared.sizes.TheConstants.{FREED_PART, LAST_RECORD_VERSION}
use Rattle.edit_journal.specs.Records.{RecordData, most_bytes, parts_of}
use Rattle.edit_journal.specs.Appends.{ring_of}
use Rattle.edit_journal.specs.Lists.{HasRecords}
use Rattle.edit_journal.specs.declared.journal.Journal.{Journal}

-- A journal with records before those of another one: it begins no later in the ring, and ends where that ends.
pub record GoesBack (kept journal : Journal) : Type 0 where
  pub ring : ring_of kept ≡ ring_of journal
  pub last : kept.last ≡ journal.last
  pub used : journal.used ≤ kept.used
  pub edits : kept.edits ≤ journal.edits
  pub place : journal.place ≡ (kept.place + (kept.used - journal.used)) % kept.places

-- A read gives these records of the ring, and the last of them are those in use.
pub record HasOlder (records : List RecordData) (kept journal : Journal) (history : History) : Type 0 where
  pub all : HasRecords records kept history
  pub in_use : HasRecords (drop (journal.edits - kept.edits) records) journal history

-- The ring is full with this count of places: but for the part that is freed at once, and the places of a longest record.
abbrev pub IsFull : Journal → (places : ℕ) → Type 0
IsFull journal places = journal.places < places + (journal.places / FREED_PART + parts_of (most_bytes LAST_RECORD_VERSION))
