use Rattle.std.proofs.Common.{ℕ, subst, arith}
use Rattle.std.specs.Prelude.{OnOk}
use Rattle.sector_disk.specs.Disk.{seen}
use Rattle.generations.specs.declared.sizes.TheConstants.{JOURNAL_START}
use Rattle.disk_copy.specs.Copies.{Copies, CopiesAs, IsUsed, ring_from}
use Rattle.disk_copy.specs.Shared.{IsOf}
use Rattle.disk_copy.proofs.sectors.copy_places.Goals as goal

pub copy_ring-requires-clause-place : goal.copy_ring-requires-clause-place
copy_ring-requires-clause-place g c = omega (arith, c.requires.place, c.requires.used, c.args.layout.fits, c.args.layout.size.1)

pub copy_ring-requires-clause-ends : goal.copy_ring-requires-clause-ends
copy_ring-requires-clause-ends g c = omega (arith, c.args.layout.fits, c.args.layout.size.1)

pub copy_ring-requires-clause-on_disk : goal.copy_ring-requires-clause-on_disk
copy_ring-requires-clause-on_disk g c = omega (arith, c.args.layout.fits, c.requires.on_disk)

pub copy_ring-requires-clause-fits : goal.copy_ring-requires-clause-fits
copy_ring-requires-clause-fits g c = omega (arith, c.args.layout.fits, c.requires.fits)

pub returns-clause-copied : goal.returns-clause-copied
returns-clause-copied g c honest into_honest =
    subst (λ (n : ℕ). OnOk c.copy_ring.result (Copies (IsUsed (ring_from JOURNAL_START n) c.args.place c.args.used) (seen (g.D.Sectors.history c.args.disk.now))
    (seen (g.E.Sectors.history c.args.into.now)) (seen (g.E.Sectors.history c.copy_ring.new.into)))) c.args.layout.journal_is
    (c.copy_ring.ensures.copied honest into_honest)

pub returns-clause-shared : goal.returns-clause-shared
returns-clause-shared g c shared into_honest =
    let is_of = IsOf g.D.SharedSectors.images (g.D.SharedSectors.now c.args.disk.now) (g.D.SharedSectors.now c.copy_ring.new.disk) in
    subst (λ (n : ℕ). OnOk c.copy_ring.result (CopiesAs is_of (IsUsed (ring_from JOURNAL_START n) c.args.place c.args.used)
    (seen (g.E.Sectors.history c.args.into.now)) (seen (g.E.Sectors.history c.copy_ring.new.into)))) c.args.layout.journal_is
    (c.copy_ring.ensures.shared shared into_honest)
