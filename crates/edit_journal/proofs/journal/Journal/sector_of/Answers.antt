use Rattle.std.proofs.Common.{ℕ, ap, ◌+◌}
use Rattle.edit_journal.proofs.journal.Journal.sector_of.Goals as goal

pub returns-clause-is : goal.returns-clause-is
returns-clause-is c = ap (λ (n : ℕ). c.args.self.now.first + n) c.place_of.ensures.is
