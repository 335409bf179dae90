-- What the file gave is what is known of it.
use Rattle.std.proofs.Common.{◌≤◌, ℕ, subst, sym}
use Rattle.file_disk.specs.Notes.{recorded_calls}
use Rattle.file_disk.proofs.FileCalls.{after_gave_first, gave_first}
use Rattle.file_disk.proofs.file.FileDisk.read_ahead.Goals as goal

pub invariant_of-self-in-Ok-3-clause-up_to_date : goal.invariant_of-self-in-Ok-3-clause-up_to_date
invariant_of-self-in-Ok-3-clause-up_to_date g c found honest =
    after_gave_first (recorded_calls c.args.self.now.file) (recorded_calls c.read_run.new.self) c.args.at c.args.count c.read_run.new.into
    c.in-Ok.ensures.notes (subst (λ (n : ℕ). c.args.count ≤ n) (sym c.in-Ok.ensures.long) c.requires.few) found honest

pub returns-in-Ok-clause-asks : goal.returns-in-Ok-clause-asks
returns-in-Ok-clause-asks g c true =
    gave_first (recorded_calls c.args.self.now.file) (recorded_calls c.read_run.new.self) c.args.at c.args.count
    c.args.self.now.behind.first c.args.self.now.behind.len c.read_run.new.into c.in-Ok.ensures.notes
    c.requires.some c.requires.few c.in-Ok.ensures.long c.requires.apart
