use Rattle.std.proofs.Common.{sym, subst, ◌+◌, ◌≤◌, length}
use Rattle.published_tiles.specs.declared.place.ArchivePlace.{ArchivePlace}
use Rattle.tile_service.specs.Service.{HasArchive}
use Rattle.tile_service.proofs.Archive.Read.{archive_there}
use Rattle.tile_service.proofs.service.Service.archive_read.Goals as goal

pub returns-clause-read : goal.returns-clause-read
returns-clause-read g c stored up = c.archive_read_at.ensures.shown stored.archive
    (subst (λ (p : ArchivePlace). HasArchive (g.D.Sectors.history c.args.self.now.disk) p stored.archive) (sym c.archive-place.ensures.is)
    (archive_there (g.D.Sectors.sectors c.args.self.now.disk) (g.D.Sectors.history c.args.self.now.disk) stored c.args.self.now up))

pub returns-clause-same : goal.returns-clause-same
returns-clause-same g c = c.archive_read_at.ensures.same

pub returns-clause-disk : goal.returns-clause-disk
returns-clause-disk g c = c.archive_read_at.ensures.disk

pub returns-clause-failed : goal.returns-clause-failed
returns-clause-failed g c = c.archive_read_at.ensures.failed

pub returns-clause-fault : goal.returns-clause-fault
returns-clause-fault g c = c.archive_read_at.ensures.fault

pub returns-clause-length : goal.returns-clause-length
returns-clause-length g c = c.archive_read_at.ensures.length

pub returns-clause-up : goal.returns-clause-up
returns-clause-up g c = c.archive_read_at.ensures.up

pub returns-clause-shown : goal.returns-clause-shown
returns-clause-shown g c = λ archive shows. c.archive_read_at.ensures.shown archive
    (subst (λ (p : ArchivePlace). HasArchive (g.D.Sectors.history c.args.self.now.disk) p archive) (sym c.archive-place.ensures.is) shows)

pub archive_read_at-requires-clause-place : goal.archive_read_at-requires-clause-place
archive_read_at-requires-clause-place g c = c.archive-place.ensures.place

pub archive_read_at-requires-clause-within : goal.archive_read_at-requires-clause-within
archive_read_at-requires-clause-within g c = subst (λ (p : ArchivePlace). c.args.at + length c.args.into.now ≤ p.len) (sym c.archive-place.ensures.is)
    c.requires.within
