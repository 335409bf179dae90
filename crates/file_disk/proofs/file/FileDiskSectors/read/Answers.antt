-- What was read ahead is the history's, since none of the sectors that are still to be written is this one.
use Rattle.std.proofs.Common.{rules, refl, inr}
use Rattle.file_disk.specs.Notes.{recorded_calls}
use Rattle.file_disk.proofs.FileCalls.{given_ahead}
use Rattle.file_disk.proofs.file.FileDiskSectors.read.Goals as goal

pub returns-then-get_ahead-clause-gives : goal.returns-then-get_ahead-clause-gives
returns-then-get_ahead-clause-gives g c honest =
    let behind = c.args.self.now.behind in
    given_ahead (recorded_calls c.args.self.now.file) (recorded_calls c.get_ahead.new.self.file) c.args.at behind.first behind.len behind.sectors
    g.S.Start.found c.get_ahead.new.into (c.if-get_ahead.ensures.given (search rules) g.S.Start.found honest) (c.if-get_ahead.ensures.asks (search rules))
    (c.if-get.ensures.other refl)

pub returns-clause-asks : goal.returns-clause-asks
returns-clause-asks g c = inr (inr (c.if-get.ensures.apart refl, search rules))
