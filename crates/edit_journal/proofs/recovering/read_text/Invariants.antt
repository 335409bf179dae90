use Rattle.std.proofs.Common.{◌≡◌, ◌*◌, min, length}
use Rattle.sector_disk.specs.Asked.{OnlyReads}
use Rattle.sector_disk.specs.Disk.{seen}
use Rattle.edit_journal.specs.declared.sizes.TheConstants.{PART_BYTES}
use Rattle.edit_journal.specs.Appends.{ring_of}
use Rattle.edit_journal.proofs.Joined.{AreRead}
use Rattle.edit_journal.proofs.recovering.read_text.Given as goal

abbrev pub invariant-loop-part : goal.invariant-loop-part
invariant-loop-part g l = record {
  disk : OnlyReads g.D.Sectors.sectors g.D.Sectors.honest g.D.Sectors.history l.initial.disk l.disk;
  faults : g.D.Sectors.faults l.disk ≡ g.D.Sectors.faults l.initial.disk;
  bytes : length l.text.items ≡ min (PART_BYTES * l.part) l.head.length;
  read : g.D.Sectors.honest l.disk → AreRead (ring_of l.journal) l.journal.place l.journal.used l.head.version l.head.number l.head.length
      (seen (g.D.Sectors.history l.initial.disk)) l.text.items l.part;
}
