use Rattle.std.proofs.Common.{arith}
use Rattle.std.proofs.lemmas.Grind.{common_steps}
use Rattle.feature_model.specs.Spelled.{spelled}
use Rattle.edit_text.proofs.encoding.encode.Goals as goal

pub overflow_cast-len : goal.overflow_cast-len
unfolding spelled
overflow_cast-len c = grind (arith, common_steps)

pub returns-clause-text : goal.returns-clause-text
unfolding spelled
returns-clause-text c = grind (arith, common_steps)
