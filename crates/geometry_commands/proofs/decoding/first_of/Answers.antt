use Rattle.geometry_commands.proofs.Spelled.{walk_one}
use Rattle.geometry_commands.proofs.decoding.first_of.Goals as goal

pub returns-clause-exact : goal.returns-clause-exact
returns-clause-exact c = walk_one (λ x. (x.0, x.1.now)) c.step_of.result c.args.from c.args.ints.now c.step_of.ensures.exact
