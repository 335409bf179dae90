use Rattle.sector_disk.specs.Disk.{seen}
use Rattle.archive_export.proofs.Finds.{archive_there, at_place, only_device}
use Rattle.archive_export.proofs.finding.find_archive.Goals as goal

pub returns-in-Ok-clause-held : goal.returns-in-Ok-clause-held
returns-in-Ok-clause-held g c n stored holds honest =
    archive_there (g.D.Sectors.sectors c.args.disk.now) (seen (g.D.Sectors.history c.args.disk.now)) n stored holds
    c.in-Ok.field-0.layout.sectors c.in-Ok.field-0.root _ (c.in-Ok.ensures.root honest)
    (at_place c.in-Ok.field-0.layout.sectors c.in-Ok.field-0.root c.archive_start.result c.archive_start.ensures)

pub returns-in-Err-clause-held : goal.returns-in-Err-clause-held
returns-in-Err-clause-held g c n stored holds honest =
    only_device (g.D.Sectors.sectors c.args.disk.now) (seen (g.D.Sectors.history c.args.disk.now)) n stored holds c.in-Err.fault
    (c.in-Err.ensures.fault honest)
