use Rattle.std.proofs.Common.{◌≡◌, ◌<◌, ◌+◌, ℕ, length}
use Rattle.sector_disk.specs.Asked.{MayWrite}
use Rattle.sector_disk.specs.Disk.{seen}
use Rattle.sector_disk.specs.Moments.{Within, LeavesOnly}
use Rattle.edit_journal.specs.Records.{record_of, parts_of, record_sector}
use Rattle.edit_journal.specs.Ring.{sector_at}
use Rattle.edit_journal.specs.Appends.{ring_of, OldOrBody, ReadsBeside, writes_in, syncs_in}
use Rattle.edit_journal.proofs.appending.stage.Given as goal

abbrev pub invariant-loop-part : goal.invariant-loop-part
invariant-loop-part g l = record {
  disk : MayWrite g.D.Sectors.sectors g.D.Sectors.honest l.initial.disk l.disk;
  faults : g.D.Sectors.faults l.disk ≡ g.D.Sectors.faults l.initial.disk;
  reads : g.D.Sectors.honest l.disk → ReadsBeside (ring_of l.journal) l.journal.place l.journal.used (parts_of (length l.text))
      (seen (g.D.Sectors.history l.initial.disk)) (seen (g.D.Sectors.history l.disk));
  leaves : g.D.Sectors.honest l.disk → LeavesOnly (g.D.Sectors.history l.initial.disk) (g.D.Sectors.history l.disk) (λ image. (at : ℕ)
      → OldOrBody (g.D.Sectors.history l.initial.disk) (ring_of l.journal) l.journal.place l.journal.used l.number (record_of l.version l.text) at (image at));
  within : g.D.Sectors.honest l.disk → Within (g.D.Sectors.history l.disk)
      (OldOrBody (g.D.Sectors.history l.initial.disk) (ring_of l.journal) l.journal.place l.journal.used l.number (record_of l.version l.text));
  bodies : g.D.Sectors.honest l.disk → (part : ℕ) → 0 < part → part < l.part
      → seen (g.D.Sectors.history l.disk) (sector_at (ring_of l.journal) (l.journal.place + (l.journal.used + part)))
      ≡ record_sector l.version l.number l.text part;
  writes : g.D.Sectors.honest l.disk → writes_in (g.D.Sectors.history l.disk) + 1 ≡ writes_in (g.D.Sectors.history l.initial.disk) + l.part;
  syncs : g.D.Sectors.honest l.disk → syncs_in (g.D.Sectors.history l.disk) ≡ syncs_in (g.D.Sectors.history l.initial.disk);
}
