use Rattle.geometry_commands.specs.Decoding.{command_at}
use Rattle.std.proofs.lemmas.Grind.{common_steps}
use Rattle.std.proofs.Common.{arith, rules}
use Rattle.geometry_commands.proofs.decoding.command_of.Goals as goal

pub returns-then-ints-eq0-clause-exact : goal.returns-then-ints-eq0-clause-exact
unfolding command_at
returns-then-ints-eq0-clause-exact c = search rules

pub returns-then-ints-number-clause-exact : goal.returns-then-ints-number-clause-exact
unfolding command_at
returns-then-ints-number-clause-exact c = grind (arith, common_steps)

pub returns-else-ints-number-clause-exact : goal.returns-else-ints-number-clause-exact
unfolding command_at
returns-else-ints-number-clause-exact c = search rules
