use Rattle.std.proofs.Common.{◌≡◌, ◌≤◌, ◌-◌, length}
use Rattle.archive_export.specs.Copies.{CopiesBytes}
use Rattle.sector_disk.specs.Asked.{OnlyReads}
use Rattle.archive_export.proofs.copying.copy_archive.Given as goal

abbrev pub invariant-loop-at : goal.invariant-loop-at
invariant-loop-at g l = record {
  within : l.at ≤ l.archive.len;
  length : length l.piece ≡ 65536;
  disk : OnlyReads g.D.Sectors.sectors g.D.Sectors.honest g.D.Sectors.history l.fn.disk l.disk;
  faults : g.D.Sectors.faults l.disk ≡ g.D.Sectors.faults l.fn.disk;
  copied : CopiesBytes g.D.Sectors.honest g.D.Sectors.history l.archive l.fn.disk 0 l.at l.disk
      (g.W.Write.contents l.fn.into) (g.W.Write.contents l.into);
}

abbrev pub decreases-loop-at : goal.decreases-loop-at
decreases-loop-at g l = l.archive.len - l.at
