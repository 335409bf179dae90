use Rattle.std.proofs.Common.{arith}
use Rattle.std.proofs.Common.{rules}
use Rattle.std.proofs.lemmas.Grind.{common_steps}
use Rattle.edit_text.specs.Trusted.{point_in}
use Rattle.edit_text.proofs.trusted_numbers.point_in.Goals as goal

pub returns-in_default-clause-point : goal.returns-in_default-clause-point
unfolding point_in
returns-in_default-clause-point c = search rules

pub returns-in_default-clause-rest : goal.returns-in_default-clause-rest
unfolding point_in
returns-in_default-clause-rest c = search rules

pub returns-in-len8-up-clause-point : goal.returns-in-len8-up-clause-point
unfolding point_in
returns-in-len8-up-clause-point c = search rules

pub returns-in-len8-up-clause-rest : goal.returns-in-len8-up-clause-rest
unfolding point_in
returns-in-len8-up-clause-rest c = grind (arith, common_steps)
