use Rattle.std.proofs.Common.{arith}
use Rattle.std.proofs.Common.{rules}
use Rattle.std.proofs.lemmas.Grind.{common_steps}
use Rattle.pb_wire.specs.Message.{field_at}
use Rattle.pb_wire.proofs.reading.field_of.Goals as goal

pub returns-in_err-key-clause-exact : goal.returns-in_err-key-clause-exact
unfolding field_at
returns-in_err-key-clause-exact c = search rules

pub returns-then-number-eq0-clause-exact : goal.returns-then-number-eq0-clause-exact
unfolding field_at
returns-then-number-eq0-clause-exact c = search rules

pub returns-in_err-value-clause-exact : goal.returns-in_err-value-clause-exact
unfolding field_at
returns-in_err-value-clause-exact c = grind (arith, common_steps)

pub returns-clause-exact : goal.returns-clause-exact
unfolding field_at
returns-clause-exact c = grind (arith, common_steps)
