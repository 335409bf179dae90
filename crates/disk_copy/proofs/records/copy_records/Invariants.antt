use Rattle.std.proofs.Common.{◌≡◌, ◌≤◌, ◌-◌, ℕ, List}
use Rattle.sector_disk.specs.Asked.{MayWrite, OnlyReads}
use Rattle.sector_disk.specs.Disk.{seen}
use Rattle.edit_journal.specs.Records.{RecordData}
use Rattle.disk_copy.specs.Copies.{Copies, IsUsed, ring_in, IsJournalOf}
use Rattle.disk_copy.specs.Shared.{GoesOn, IsStretch, HasWalked}
use Rattle.disk_copy.proofs.records.copy_records.Given as goal

abbrev pub invariant-loop-parts : goal.invariant-loop-parts
invariant-loop-parts g l = record {
  fits : l.used ≤ l.fn.found.layout.journal;
  disk : OnlyReads g.D.Sectors.sectors g.D.Sectors.honest g.D.Sectors.history l.fn.disk l.disk;
  into : MayWrite g.E.Sectors.sectors g.E.Sectors.honest l.fn.into l.into;
  faults : g.D.Sectors.faults l.disk ≡ g.D.Sectors.faults l.fn.disk;
  other_faults : g.E.Sectors.faults l.into ≡ g.E.Sectors.faults l.fn.into;
  later : GoesOn g.D.SharedSectors.shared g.D.SharedSectors.now l.fn.disk l.disk;
  walked : (records : List RecordData) → g.D.Sectors.honest l.disk
      → IsJournalOf l.fn.found.layout.sectors l.fn.found.version l.fn.found.root records (seen (g.D.Sectors.history l.fn.disk))
      → HasWalked l.fn.found.root records l.used l.last;
  copied : g.D.Sectors.honest l.disk → g.E.Sectors.honest l.into
      → Copies (IsUsed (ring_in l.fn.found.layout.sectors) l.fn.found.root.journal_at l.used)
      (seen (g.D.Sectors.history l.fn.disk)) (seen (g.E.Sectors.history l.fn.into)) (seen (g.E.Sectors.history l.into));
  shared : (records : ℕ → List RecordData) (to : ℕ) → g.D.SharedSectors.shared l.disk → g.D.SharedSectors.now l.disk ≤ to
      → IsStretch l.fn.found.layout.sectors l.fn.found.version l.fn.found.root records g.D.SharedSectors.images (g.D.SharedSectors.now l.fn.disk) to
      → HasWalked l.fn.found.root (records (g.D.SharedSectors.now l.disk)) l.used l.last;
  of_now : (records : ℕ → List RecordData) (to : ℕ) → g.D.SharedSectors.shared l.disk → g.E.Sectors.honest l.into → g.D.SharedSectors.now l.disk ≤ to
      → IsStretch l.fn.found.layout.sectors l.fn.found.version l.fn.found.root records g.D.SharedSectors.images (g.D.SharedSectors.now l.fn.disk) to
      → Copies (IsUsed (ring_in l.fn.found.layout.sectors) l.fn.found.root.journal_at l.used) (g.D.SharedSectors.images (g.D.SharedSectors.now l.disk))
      (seen (g.E.Sectors.history l.fn.into)) (seen (g.E.Sectors.history l.into));
}

abbrev pub decreases-loop-parts : goal.decreases-loop-parts
decreases-loop-parts g l = l.fn.found.layout.journal - l.used
