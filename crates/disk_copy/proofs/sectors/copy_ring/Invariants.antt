use Rattle.std.proofs.Common.{◌≡◌, ◌≤◌, ◌-◌}
use Rattle.sector_disk.specs.Asked.{MayWrite, OnlyReads}
use Rattle.sector_disk.specs.Disk.{seen}
use Rattle.disk_copy.specs.Copies.{Copies, CopiesAs, IsUsed, ring_from}
use Rattle.disk_copy.specs.Shared.{GoesOn, IsOf}
use Rattle.disk_copy.proofs.sectors.copy_ring.Given as goal

abbrev pub invariant-loop-done : goal.invariant-loop-done
invariant-loop-done g l = record {
  within : l.done ≤ l.used;
  disk : OnlyReads g.D.Sectors.sectors g.D.Sectors.honest g.D.Sectors.history l.fn.disk l.disk;
  into : MayWrite g.E.Sectors.sectors g.E.Sectors.honest l.fn.into l.into;
  faults : g.D.Sectors.faults l.disk ≡ g.D.Sectors.faults l.fn.disk;
  other_faults : g.E.Sectors.faults l.into ≡ g.E.Sectors.faults l.fn.into;
  copied : g.D.Sectors.honest l.disk → g.E.Sectors.honest l.into → Copies (IsUsed (ring_from l.first l.places) l.place l.done)
      (seen (g.D.Sectors.history l.fn.disk)) (seen (g.E.Sectors.history l.fn.into)) (seen (g.E.Sectors.history l.into));
  later : GoesOn g.D.SharedSectors.shared g.D.SharedSectors.now l.fn.disk l.disk;
  shared : g.D.SharedSectors.shared l.disk → g.E.Sectors.honest l.into
      → CopiesAs (IsOf g.D.SharedSectors.images (g.D.SharedSectors.now l.fn.disk) (g.D.SharedSectors.now l.disk))
      (IsUsed (ring_from l.first l.places) l.place l.done) (seen (g.E.Sectors.history l.fn.into)) (seen (g.E.Sectors.history l.into));
}

abbrev pub decreases-loop-done : goal.decreases-loop-done
decreases-loop-done g l = l.used - l.done
