use Rattle.std.proofs.Common.{◌≡◌, ◌≤◌, ◌+◌, ◌-◌, List, take}
use Rattle.sector_disk.specs.Asked.{OnlyReads}
use Rattle.edit_journal.specs.Records.{RecordData}
use Rattle.edit_journal.specs.Ring.{places_of}
use Rattle.edit_journal.specs.Lists.{HasRecords}
use Rattle.edit_journal.proofs.journal.Journal.offset_of.Given as goal

abbrev pub invariant-loop-low : goal.invariant-loop-low
invariant-loop-low g l = record {
  disk : OnlyReads g.D.Sectors.sectors g.D.Sectors.honest g.D.Sectors.history l.fn.disk l.disk;
  faults : g.D.Sectors.faults l.disk ≡ g.D.Sectors.faults l.fn.disk;
  within : (l.low ≤ l.high) × (l.high ≤ l.fn.self.used);
  between : (records : List RecordData) → g.D.Sectors.honest l.disk → HasRecords records l.fn.self (g.D.Sectors.history l.fn.disk)
      → (l.low ≤ places_of (take (l.fn.number - (l.fn.self.edits + 1)) records))
      × (places_of (take (l.fn.number - (l.fn.self.edits + 1)) records) ≤ l.high);
}

abbrev pub decreases-loop-low : goal.decreases-loop-low
decreases-loop-low g l = l.high - l.low
