-- With an answer the must-fail edit recovery_counts_bodies is refused at once.
use Rattle.std.proofs.Common.{arith, rules}
use Rattle.edit_journal.proofs.head.head_version.Goals as goal

pub returns-then-number_in-number : goal.returns-then-number_in-number
returns-then-number_in-number c = (omega arith, omega arith, record { kind_is = omega arith; version_is = search rules; number_is = search rules })
