-- Records that are read again, from one of them on.
use Rattle.std.specs.Prelude.{◌≡◌, ◌+◌, ◌-◌, ℕ, List, [], ◌∷◌, length}
use Rattle.std.proofs.Common.{zero, suc}
use Rattle.sector_disk.specs.Disk.{History, seen}
use Rattle.edit_journal.specs.Records.{RecordData}
use Rattle.edit_journal.specs.Ring.{places_of, HoldsRecords}
use Rattle.edit_journal.specs.Appends.{ring_of, start_of}
use Rattle.edit_journal.specs.declared.journal.Journal.{Journal}

-- A read gives these records of the ones in use: they take the places in use, and have the numbers up to the last. The journal of a service
-- that can't write any more has them too.
pub record HasRecords (records : List RecordData) (journal : Journal) (history : History) : Type 0 where
  pub reads : HoldsRecords (ring_of journal) (start_of journal.place journal.edits) records (seen history)
  pub uses : journal.used ≡ places_of records
  pub counts : journal.last ≡ journal.edits + length records

-- The first records, until their texts have this many bytes or more: one at least, if there is one and a byte is asked for.
abbrev pub first_bytes : ℕ → List RecordData → List RecordData
first_bytes bytes [] = []
first_bytes zero (r ∷ records) = []
first_bytes (suc rest) (r ∷ records) = r ∷ first_bytes (suc rest - length r.text) records
