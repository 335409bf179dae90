use Rattle.std.proofs.lemmas.Grind.{common_steps}
use Rattle.std.proofs.Common.{arith}
use Rattle.edit_journal.proofs.journal.Journal.places_before.Goals as goal

pub returns-else-self-start : goal.returns-else-self-start
returns-else-self-start c = grind (arith, common_steps)
