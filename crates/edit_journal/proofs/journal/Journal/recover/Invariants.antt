use Rattle.std.proofs.Common.{◌≡◌, ◌≤◌, ◌+◌, ◌-◌, length}
use Rattle.sector_disk.specs.Asked.{OnlyReads}
use Rattle.sector_disk.specs.Disk.{seen}
use Rattle.edit_journal.specs.Records.{records_of, AreUpTo}
use Rattle.edit_journal.specs.Ring.{AreRecords, places_of, HoldsRecords}
use Rattle.edit_journal.specs.Appends.{ring_of, start_of}
use Rattle.edit_journal.proofs.journal.Journal.recover.Given as goal

abbrev pub invariant-loop-records : goal.invariant-loop-records
invariant-loop-records g l = record {
  disk : OnlyReads g.D.Sectors.sectors g.D.Sectors.honest g.D.Sectors.history l.initial.disk l.disk;
  faults : g.D.Sectors.faults l.disk ≡ g.D.Sectors.faults l.initial.disk;
  inside : l.journal.first + l.journal.places ≤ g.D.Sectors.sectors l.disk;
  ring : ring_of l.journal ≡ record { first = l.fn.first; places = l.fn.places };
  start : start_of l.journal.place l.journal.edits ≡ start_of l.fn.start.place l.fn.start.edits;
  used : l.journal.used ≡ places_of (records_of l.records.items);
  last : l.journal.last ≡ l.fn.start.edits + length l.records.items;
  lengths : AreRecords (records_of l.records.items);
  versions : AreUpTo l.fn.version (records_of l.records.items);
  held : g.D.Sectors.honest l.disk → HoldsRecords (record { first = l.fn.first; places = l.fn.places })
      (start_of l.fn.start.place l.fn.start.edits) (records_of l.records.items) (seen (g.D.Sectors.history l.initial.disk));
}

abbrev pub decreases-loop-records : goal.decreases-loop-records
decreases-loop-records g l = l.journal.places - l.journal.used
