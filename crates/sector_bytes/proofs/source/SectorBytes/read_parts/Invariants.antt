use Rattle.std.proofs.Common.{◌≡◌, ◌≤◌, ◌+◌, ◌-◌, length, take, slice_range}
use Rattle.generations.specs.Areas.{sectors_of}
use Rattle.sector_bytes.specs.Bytes.{bytes_from, AreWhole}
use Rattle.sector_bytes.specs.Source.{IsUntouched}
use Rattle.sector_disk.specs.Disk.{seen}
use Rattle.sector_bytes.proofs.source.SectorBytes.read_parts.Given as goal

abbrev pub invariant-loop-done : goal.invariant-loop-done
invariant-loop-done g l = record {
  untouched : IsUntouched g.D.Sectors.sectors g.D.Sectors.honest g.D.Sectors.history g.D.Sectors.faults l.initial.self l.self;
  faults : g.D.Sectors.faults l.self.disk.now ≡ g.D.Sectors.faults l.initial.self.disk.now;
  len : l.self.len ≡ l.initial.self.len;
  length_is : length l.into ≡ length l.initial.into;
  done : l.done ≤ length l.initial.into;
  whole : g.D.Sectors.honest l.self.disk.now → AreWhole l.initial.self.first l.at l.done (seen (g.D.Sectors.history l.initial.self.disk.now));
  read : g.D.Sectors.honest l.self.disk.now → take l.done l.into ≡ slice_range
      (bytes_from (seen (g.D.Sectors.history l.initial.self.disk.now)) l.initial.self.first (sectors_of (l.at + length l.initial.into))) l.at (l.at + l.done);
}

abbrev pub decreases-loop-done : goal.decreases-loop-done
decreases-loop-done g l = length l.initial.into - l.done
