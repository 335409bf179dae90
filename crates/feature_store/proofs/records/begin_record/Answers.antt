use Rattle.std.proofs.Common.{arith}
use Rattle.std.proofs.lemmas.Grind.{common_steps}
use Rattle.feature_store.proofs.records.begin_record.Goals as goal

pub overflow_cast-changes : goal.overflow_cast-changes
overflow_cast-changes c = grind (arith, common_steps)

pub returns : goal.returns
returns c = grind (arith, common_steps)
