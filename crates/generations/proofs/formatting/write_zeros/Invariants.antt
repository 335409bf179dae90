use Rattle.std.proofs.Common.{◌≡◌, ◌<◌, ℕ}
use Rattle.sector_disk.specs.Asked.{MayWrite}
use Rattle.sector_disk.specs.Disk.{seen}
use Rattle.sector_disk.specs.Moments.{Within, LeavesOnly}
use Rattle.generations.specs.Written.{IsOldOrEmpty}
use Rattle.generations.specs.Sectors.{zeros}
use Rattle.generations.proofs.formatting.write_zeros.Given as goal

abbrev pub invariant-loop-at : goal.invariant-loop-at
invariant-loop-at g l = record {
  disk : MayWrite g.D.Sectors.sectors g.D.Sectors.honest l.initial.disk l.disk;
  faults : g.D.Sectors.faults l.disk ≡ g.D.Sectors.faults l.initial.disk;
  leaves : g.D.Sectors.honest l.disk → LeavesOnly (g.D.Sectors.history l.initial.disk) (g.D.Sectors.history l.disk)
      (λ image. (index : ℕ) → IsOldOrEmpty (g.D.Sectors.history l.initial.disk) index (image index));
  within : g.D.Sectors.honest l.disk → Within (g.D.Sectors.history l.disk) (IsOldOrEmpty (g.D.Sectors.history l.initial.disk));
  empty : g.D.Sectors.honest l.disk → (at : ℕ) → 0 < at → at < l.at → seen (g.D.Sectors.history l.disk) at ≡ zeros;
}
