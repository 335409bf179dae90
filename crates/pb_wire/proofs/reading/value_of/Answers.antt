use Rattle.std.proofs.Common.{arith}
use Rattle.std.proofs.Common.{rules}
use Rattle.std.proofs.lemmas.Grind.{common_steps}
use Rattle.pb_wire.specs.Message.{value_at}
use Rattle.pb_wire.proofs.reading.value_of.Goals as goal

pub returns-in_err-n-in-0-clause-exact : goal.returns-in_err-n-in-0-clause-exact
unfolding value_at
returns-in_err-n-in-0-clause-exact c = search rules

pub returns-in_err-front-in-1-clause-exact : goal.returns-in_err-front-in-1-clause-exact
unfolding value_at
returns-in_err-front-in-1-clause-exact c = search rules

pub returns-in_err-n-in-2-clause-exact : goal.returns-in_err-n-in-2-clause-exact
unfolding value_at
returns-in_err-n-in-2-clause-exact c = search rules

pub returns-then-rest-n-clause-exact : goal.returns-then-rest-n-clause-exact
unfolding value_at
returns-then-rest-n-clause-exact c = grind (arith, common_steps)

pub returns-in_err-front-in-5-clause-exact : goal.returns-in_err-front-in-5-clause-exact
unfolding value_at
returns-in_err-front-in-5-clause-exact c = search rules

pub returns-in_ok-n-in-0-clause-exact : goal.returns-in_ok-n-in-0-clause-exact
unfolding value_at
returns-in_ok-n-in-0-clause-exact c = search rules

pub returns-in_ok-front-in-1-clause-exact : goal.returns-in_ok-front-in-1-clause-exact
unfolding value_at
returns-in_ok-front-in-1-clause-exact c = search rules

pub returns-else-rest-n-clause-exact : goal.returns-else-rest-n-clause-exact
unfolding value_at
returns-else-rest-n-clause-exact c = grind (arith, common_steps)

pub returns-in_ok-front-in-5-clause-exact : goal.returns-in_ok-front-in-5-clause-exact
unfolding value_at
returns-in_ok-front-in-5-clause-exact c = search rules

pub returns-in_default-clause-exact : goal.returns-in_default-clause-exact
unfolding value_at
returns-in_default-clause-exact c = search rules
