-- What was read ahead is known.
use Rattle.file_disk.specs.Calls.{replayed}
use Rattle.sector_disk.specs.Disk.{seen}
use Rattle.file_disk.specs.Notes.{recorded_calls}
use Rattle.file_disk.proofs.file.FileDisk.get_ahead.Goals as goal

pub returns-then-get-clause-given : goal.returns-then-get-clause-given
returns-then-get-clause-given g c true found honest =
    c.if-get.ensures.given true (seen (replayed found (recorded_calls c.args.self.now.file))) (c.args.self.now.up_to_date found honest)
