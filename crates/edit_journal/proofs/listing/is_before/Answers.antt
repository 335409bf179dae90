use Rattle.std.proofs.Common.{◌+◌, ◌-◌, ◌∙◌, ap, arith}
use Rattle.sector_disk.specs.Disk.{Image, seen}
use Rattle.edit_journal.specs.Records.{number_from}
use Rattle.edit_journal.specs.Appends.{ring_of, start_of}
use Rattle.edit_journal.proofs.ReadAgain.{before_by_number}
use Rattle.edit_journal.proofs.listing.is_before.Goals as goal

pub returns-clause-is : goal.returns-clause-is
returns-clause-is g c records honest has =
    let journal = c.args.journal.now in
    let image : Image = seen (g.D.Sectors.history c.args.disk.now) in
    before_by_number (ring_of journal) image (start_of journal.place journal.edits) records (c.args.number - (journal.edits + 1)) c.args.offset
    c.number_in.result c.args.number has.reads (omega (arith, c.requires.offset, has.uses)) (omega (arith, c.requires.number.0))
    (c.number_in.ensures ∙ ap number_from (c.in_ok-sector.ensures.gives honest))
