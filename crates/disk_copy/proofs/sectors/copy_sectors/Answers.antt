use Rattle.std.proofs.Common.{◌≡◌}
use Rattle.std.proofs.lemmas.Result.{on_ok_weaker}
use Rattle.sector_disk.specs.Disk.{seen}
use Rattle.disk_copy.specs.Copies.{IsIn, IsUsed, ring_from}
use Rattle.disk_copy.specs.Shared.{IsOf}
use Rattle.disk_copy.proofs.Steps.{copies_in, in_ring, ring_in_range}
use Rattle.disk_copy.proofs.sectors.copy_sectors.Goals as goal

pub returns-clause-copied : goal.returns-clause-copied
returns-clause-copied g c honest into_honest =
    let first = c.args.first in
    let count = c.args.count in
    on_ok_weaker c.copy_ring.result
    (copies_in (λ at bytes. bytes ≡ seen (g.D.Sectors.history c.args.disk.now) at) (IsUsed (ring_from first count) 0 count) (IsIn first count)
    (seen (g.E.Sectors.history c.args.into.now)) (seen (g.E.Sectors.history c.copy_ring.new.into)) (ring_in_range first count) (in_ring first count))
    (c.copy_ring.ensures.copied honest into_honest)

pub returns-clause-shared : goal.returns-clause-shared
returns-clause-shared g c shared into_honest =
    let first = c.args.first in
    let count = c.args.count in
    on_ok_weaker c.copy_ring.result
    (copies_in (IsOf g.D.SharedSectors.images (g.D.SharedSectors.now c.args.disk.now) (g.D.SharedSectors.now c.copy_ring.new.disk))
    (IsUsed (ring_from first count) 0 count) (IsIn first count)
    (seen (g.E.Sectors.history c.args.into.now)) (seen (g.E.Sectors.history c.copy_ring.new.into)) (ring_in_range first count) (in_ring first count))
    (c.copy_ring.ensures.shared shared into_honest)
