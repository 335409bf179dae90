use Rattle.std.proofs.Common.{arith}
use Rattle.std.proofs.Common.{rules}
use Rattle.std.proofs.lemmas.Grind.{common_steps}
use Rattle.feature_model.specs.Spelled.{spelled_value}
use Rattle.edit_text.proofs.encoding.put_value.Goals as goal

pub returns-in_ok-push-in-Text-clause-text : goal.returns-in_ok-push-in-Text-clause-text
unfolding spelled_value
returns-in_ok-push-in-Text-clause-text c = grind (arith, common_steps)

pub returns-in_ok-push-in-Natural-clause-text : goal.returns-in_ok-push-in-Natural-clause-text
unfolding spelled_value
returns-in_ok-push-in-Natural-clause-text c = grind (arith, common_steps)

pub returns-in_ok-push-in-Negative-clause-text : goal.returns-in_ok-push-in-Negative-clause-text
unfolding spelled_value
returns-in_ok-push-in-Negative-clause-text c = grind (arith, common_steps)

pub returns-in_ok-push-in-Truth-clause-text : goal.returns-in_ok-push-in-Truth-clause-text
unfolding spelled_value
returns-in_ok-push-in-Truth-clause-text c = search rules
