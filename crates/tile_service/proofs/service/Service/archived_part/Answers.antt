use Rattle.std.proofs.Common.{◌∙◌, sym, ap, subst}
use Rattle.published_tiles.specs.Published.{ArePublished}
use Rattle.published_tiles.specs.declared.place.ArchivePlace.{ArchivePlace}
use Rattle.sector_bytes.specs.Source.{AreItsBytes}
use Rattle.sector_disk.specs.Disk.{seen}
use Rattle.tile_service.specs.Service.{archive_of}
use Rattle.tile_service.proofs.Archive.Read.{archive_there, up_read}
use Rattle.tile_service.proofs.service.Service.archived_part.Goals as goal

pub returns-clause-up : goal.returns-clause-up
returns-clause-up g c = rw (← c.self.view_is) (λ stored up honest.
    let place = c.archive-archive.ensures.is ∙ ap (λ s. archive_of s) (sym c.self.view_is) in
    let there = archive_there (g.D.Sectors.sectors c.self.inside.disk) (g.D.Sectors.history c.self.inside.disk) stored _ up in
    up_read (g.D.Sectors.sectors c.self.inside.disk) (g.D.Sectors.history c.self.inside.disk) stored _ up c.prepare.new.disk c.prepare.new.self
    c.self.inside.map.kept _ _ c.prepare.ensures.disk.same_count (c.prepare.ensures.disk.same_history honest)
    (subst (λ (p : ArchivePlace). ArePublished c.prepare.new.self p stored.archive) place
    (c.prepare.ensures.still stored.archive honest
    (subst (λ (p : ArchivePlace). AreItsBytes p.first p.len stored.archive (seen (g.D.Sectors.history c.self.inside.disk))) (sym place)
    there)
    (subst (λ (p : ArchivePlace). ArePublished c.self.inside.published p stored.archive) (sym place)
    up.archived))) up.reads)

pub returns-clause-never_falls : goal.returns-clause-never_falls
returns-clause-never_falls g c = rw (← c.self.view_is) c.prepare.ensures.never_falls
