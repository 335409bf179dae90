use Rattle.std.proofs.Common.{arith}
use Rattle.std.proofs.Common.{rules}
use Rattle.std.proofs.lemmas.Grind.{common_steps}
use Rattle.edit_text.specs.Trusted.{number_in}
use Rattle.edit_text.proofs.trusted_numbers.number_in.Goals as goal

pub returns-in_default-clause-number : goal.returns-in_default-clause-number
unfolding number_in
returns-in_default-clause-number c = search rules

pub returns-in_default-clause-rest : goal.returns-in_default-clause-rest
unfolding number_in
returns-in_default-clause-rest c = search rules

pub returns-in-len8-up-clause-number : goal.returns-in-len8-up-clause-number
unfolding number_in
returns-in-len8-up-clause-number c = search rules

pub returns-in-len8-up-clause-rest : goal.returns-in-len8-up-clause-rest
unfolding number_in
returns-in-len8-up-clause-rest c = grind (arith, common_steps)
