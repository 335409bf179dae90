-- The edits that the journal of a service has.
use Rattle.std.specs.Prelude.{◌≡◌, ◌≢◌, ◌<◌, ◌+◌, ◌-◌, ℕ, List, map, drop, All, Result, Ok, Err, MatchResult, Vec}
use Rattle.std.proofs.Common.{Global}
use Rattle.sector_disk.specs.Disk.{History}
use Rattle.edit_journal.specs.Kept.{HasOlder}
use Rattle.edit_journal.specs.Lists.{first_bytes}
use Rattle.edit_journal.specs.Records.{RecordData, records_of}
use Rattle.edit_journal.specs.declared.fault.JournalFault.{JournalFault}
use Rattle.edit_journal.specs.declared.fault.JournalFault.TheVariants.{Damaged}
use Rattle.edit_journal.specs.declared.records.Record.{Record}
use Rattle.edit_text.specs.Recorded.{RecordedEdit}
use Rattle.tile_service.specs.Machine.{Happening, list_edits}
use Rattle.tile_service.specs.Service.{ServiceView}
use Rattle.tile_service.specs.Stored.{CanRecord, record_for}

-- the first of the records of the edits from a number on, until their texts have this many bytes or more; the edits come after the forgotten ones
abbrev pub listed_from : (forgotten : ℕ) → List RecordedEdit → (number bytes : ℕ) → List RecordData
listed_from forgotten edits number bytes = first_bytes bytes (map record_for (drop (number - (forgotten + 1)) edits))

-- the records that are read are these, or there is another fault than that one of them is damaged
abbrev pub AreListed : List RecordData → Result (List RecordData) JournalFault → Type 0
AreListed records outcome = MatchResult outcome (λ found. found ≡ records) (λ fault. fault ≢ Damaged)

-- the edits that are listed are the first of these edits from that number on
abbrev pub ListsFrom : (forgotten : ℕ) → List RecordedEdit → Happening → Type 0
ListsFrom forgotten edits (list_edits number bytes outcome) = (forgotten < number) × AreListed (listed_from forgotten edits number bytes) outcome
ListsFrom forgotten edits happening = Unit {0}

-- the records that a call lists, or its fault
abbrev pub listed_records : Result (Vec Record Global) JournalFault → Result (List RecordData) JournalFault
listed_records (Ok found) = Ok (records_of found.items)
listed_records (Err fault) = Err fault
