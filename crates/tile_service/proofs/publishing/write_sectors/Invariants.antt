use Rattle.std.proofs.Common.{◌≡◌, ◌≤◌, ◌+◌, suc}
use Rattle.sector_disk.specs.Asked.{MayWrite}
use Rattle.sector_disk.specs.Disk.{moment, seen}
use Rattle.sector_disk.specs.Moments.{LeavesOnly}
use Rattle.tile_service.specs.Publishing.{IsBeside, HasFirst}
use Rattle.tile_service.specs.Stored.{Stored, Holds, Keeps}
use Rattle.tile_service.proofs.publishing.write_sectors.Given as goal

abbrev pub invariant-loop-index : goal.invariant-loop-index
invariant-loop-index g l = record {
  disk : MayWrite g.D.Sectors.sectors g.D.Sectors.honest l.initial.disk l.disk;
  faults : g.D.Sectors.faults l.disk ≡ g.D.Sectors.faults l.initial.disk;
  steps : g.D.Sectors.honest l.disk → moment (g.D.Sectors.history l.disk) + l.from ≤ moment (g.D.Sectors.history l.initial.disk) + l.index;
  leaves : (stored : Stored) → g.D.Sectors.honest l.disk → l.generation ≡ suc stored.generation
      → Keeps (g.D.Sectors.sectors l.initial.disk) l.layout.sectors stored (g.D.Sectors.history l.initial.disk)
      → LeavesOnly (g.D.Sectors.history l.initial.disk) (g.D.Sectors.history l.disk) (Holds (g.D.Sectors.sectors l.initial.disk) l.layout.sectors stored);
  keeps : (stored : Stored) → g.D.Sectors.honest l.disk → l.generation ≡ suc stored.generation
      → Keeps (g.D.Sectors.sectors l.initial.disk) l.layout.sectors stored (g.D.Sectors.history l.initial.disk)
      → Keeps (g.D.Sectors.sectors l.initial.disk) l.layout.sectors stored (g.D.Sectors.history l.disk);
  beside : g.D.Sectors.honest l.disk
      → IsBeside l.layout.sectors l.generation (seen (g.D.Sectors.history l.initial.disk)) (seen (g.D.Sectors.history l.disk));
  first : g.D.Sectors.honest l.disk
      → HasFirst l.layout.sectors l.generation l.content.snapshot l.content.archive l.from (seen (g.D.Sectors.history l.initial.disk))
      → HasFirst l.layout.sectors l.generation l.content.snapshot l.content.archive l.index (seen (g.D.Sectors.history l.disk));
}
