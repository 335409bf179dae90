-- What was read ahead, beside the sectors that are handed over, is known still.
use Rattle.std.proofs.Common.{rules}
use Rattle.file_disk.specs.Calls.{replayed}
use Rattle.sector_disk.specs.Disk.{seen}
use Rattle.file_disk.specs.Notes.{recorded_calls}
use Rattle.file_disk.proofs.FileCalls.{after_took, after_refused}
use Rattle.file_disk.proofs.file.FileDisk.write_back.Goals as goal

pub invariant_of-self-in-Ok-2-clause-up_to_date : goal.invariant_of-self-in-Ok-2-clause-up_to_date
invariant_of-self-in-Ok-2-clause-up_to_date g c found honest =
    let old = recorded_calls c.args.self.now.file in
    let new = recorded_calls c.write_run.new.self in
    let behind = c.args.self.now.behind in
    let after = after_took old new behind.first behind.len behind.sectors c.in-Ok.ensures (search rules) found honest in
    c.invalidate.ensures (seen (replayed found old)) (seen (replayed found new)) (c.args.self.now.up_to_date found after.0) after.1

pub invariant_of-self-in-Err-clause-up_to_date : goal.invariant_of-self-in-Err-clause-up_to_date
invariant_of-self-in-Err-clause-up_to_date g c found honest =
    let old = recorded_calls c.args.self.now.file in
    let new = recorded_calls c.write_run.new.self in
    let after = after_refused old new _ _ c.in-Err.ensures found honest in
    c.invalidate.ensures (seen (replayed found old)) (seen (replayed found new)) (c.args.self.now.up_to_date found after.0) (λ at beside. after.1 at)
