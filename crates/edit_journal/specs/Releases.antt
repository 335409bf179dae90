-- Records that are no longer needed, and the start of those after them.
use Rattle.std.specs.Prelude.{◌≡◌, ◌≤◌, ◌+◌, ◌-◌, ◌*◌, ◌%◌, ℕ}
use Rattle.edit_journal.specs.declared.sizes.TheConstants.{LAST_RECORD_VERSION}
use Rattle.edit_journal.specs.Records.{most_bytes, parts_of}
use Rattle.edit_journal.specs.declared.journal.Journal.{Journal}
use Rattle.edit_journal.specs.declared.journal.JournalPosition.{JournalPosition}

-- This count of records may have this count of places: each has one at least, and none has more than that of the longest text.
abbrev pub MayTake : (records places : ℕ) → Type 0
MayTake records places = (records ≤ places) × (places ≤ parts_of (most_bytes LAST_RECORD_VERSION) * records)

-- the records in use may have the places in use
abbrev pub IsCounted : Journal → Type 0
IsCounted journal = MayTake (journal.last - journal.edits) journal.used

-- The start is `behind` of the places in use after that of the journal, and divides the records in use accordingly.
pub record IsBehind (journal : Journal) (start : JournalPosition) (behind : ℕ) : Type 0 where
  pub place : start.place ≡ (journal.place + behind) % journal.places
  pub in_use : behind ≤ journal.used
  pub numbers : (journal.edits ≤ start.edits) × (start.edits ≤ journal.last)
  pub before : MayTake (start.edits - journal.edits) behind
  pub after : MayTake (journal.last - start.edits) (journal.used - behind)
