use Rattle.std.proofs.Common.{◌∙◌, sym, ap, subst}
use Rattle.feature_store.specs.Content.{IsTileContent}
use Rattle.feature_store.specs.Layers.{layers}
use Rattle.published_tiles.specs.Published.{ArePublished}
use Rattle.published_tiles.specs.declared.place.ArchivePlace.{ArchivePlace}
use Rattle.sector_bytes.specs.Source.{AreItsBytes}
use Rattle.sector_disk.specs.Disk.{seen}
use Rattle.tile_service.specs.Service.{archive_of}
use Rattle.tile_service.proofs.Archive.Read.{archive_of_map, archive_there, up_read}
use Rattle.tile_service.proofs.Tiles.SharedRead.{shared_outcome}
use Rattle.tile_service.proofs.service.Service.archived_tile.Goals as goal

pub returns-clause-tile : goal.returns-clause-tile
returns-clause-tile g c = rw (← c.self.view_is) (λ stored up honest.
    let place = c.archive-archive.ensures.is ∙ ap (λ s. archive_of s) (sym c.self.view_is) in
    let there = archive_there (g.D.Sectors.sectors c.self.inside.disk) (g.D.Sectors.history c.self.inside.disk) stored _ up in
    let is_map = archive_of_map (g.D.Sectors.sectors c.self.inside.disk) (g.D.Sectors.history c.self.inside.disk) stored _ up in
    shared_outcome (IsTileContent (layers stored.snapshot_map c.args.at.z c.args.at.x c.args.at.y)) c.tile.result c.share.result c.share.ensures
    (c.tile.ensures.tile stored.snapshot_map is_map.0 stored.archive honest
    (subst (λ (p : ArchivePlace). AreItsBytes p.first p.len stored.archive (seen (g.D.Sectors.history c.self.inside.disk))) (sym place)
    there)
    is_map.1
    (subst (λ (p : ArchivePlace). ArePublished c.self.inside.published p stored.archive) (sym place) up.archived)))

pub returns-clause-up : goal.returns-clause-up
returns-clause-up g c = rw (← c.self.view_is) (λ stored up honest.
    let place = c.archive-archive.ensures.is ∙ ap (λ s. archive_of s) (sym c.self.view_is) in
    let there = archive_there (g.D.Sectors.sectors c.self.inside.disk) (g.D.Sectors.history c.self.inside.disk) stored _ up in
    up_read (g.D.Sectors.sectors c.self.inside.disk) (g.D.Sectors.history c.self.inside.disk) stored _ up c.tile.new.disk c.tile.new.self
    c.self.inside.map.kept _ _ c.tile.ensures.disk.same_count (c.tile.ensures.disk.same_history honest)
    (subst (λ (p : ArchivePlace). ArePublished c.tile.new.self p stored.archive) place
    (c.tile.ensures.still stored.archive honest
    (subst (λ (p : ArchivePlace). AreItsBytes p.first p.len stored.archive (seen (g.D.Sectors.history c.self.inside.disk))) (sym place)
    there)
    (subst (λ (p : ArchivePlace). ArePublished c.self.inside.published p stored.archive) (sym place)
    up.archived))) up.reads)

pub returns-clause-never_falls : goal.returns-clause-never_falls
returns-clause-never_falls g c = rw (← c.self.view_is) c.tile.ensures.never_falls
