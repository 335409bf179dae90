use Rattle.std.proofs.Common.{◌≡◌, ◌+◌, ◌-◌, ◌++◌, List, length, take, drop}
use Rattle.sector_disk.specs.Asked.{OnlyReads}
use Rattle.edit_journal.specs.Records.{RecordData, records_of, AreUpTo}
use Rattle.edit_journal.specs.Ring.{places_of}
use Rattle.edit_journal.specs.Lists.{HasRecords, first_bytes}
use Rattle.edit_journal.specs.Appends.{ring_of, start_of}
use Rattle.edit_journal.proofs.journal.Journal.records_from.Given as goal

abbrev pub invariant-loop-last : goal.invariant-loop-last
invariant-loop-last g l = record {
  disk : OnlyReads g.D.Sectors.sectors g.D.Sectors.honest g.D.Sectors.history l.fn.disk l.disk;
  faults : g.D.Sectors.faults l.disk ≡ g.D.Sectors.faults l.fn.disk;
  ring : ring_of l.before ≡ ring_of l.fn.self;
  start : start_of l.before.place l.before.edits ≡ start_of l.fn.self.place l.fn.self.edits;
  last : l.before.last ≡ l.last;
  counted : l.fn.number + length l.found.items ≡ l.last + 1;
  held : (records : List RecordData) → g.D.Sectors.honest l.disk → HasRecords records l.fn.self (g.D.Sectors.history l.fn.disk)
      → AreUpTo l.fn.most records → (l.before.used ≡ places_of (take (l.last - l.fn.self.edits) records))
      × (records_of l.found.items ++ first_bytes l.room (drop (l.last - l.fn.self.edits) records)
      ≡ first_bytes l.fn.bytes (drop (l.fn.number - (l.fn.self.edits + 1)) records));
}
