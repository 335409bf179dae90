use Rattle.std.proofs.Common.{rules}
use Rattle.geometry_commands.specs.Decoding.{points_at}
use Rattle.geometry_commands.specs.Decoding.{points_behind}
use Rattle.geometry_commands.specs.Decoding.{points_end}
use Rattle.geometry_commands.proofs.decoding.points_of.Goals as goal

pub returns-then-ints-eq0-clause-exact : goal.returns-then-ints-eq0-clause-exact
unfolding points_at points_behind points_end
returns-then-ints-eq0-clause-exact c = search rules

pub returns-in_err-points-clause-exact : goal.returns-in_err-points-clause-exact
unfolding points_at points_behind points_end
returns-in_err-points-clause-exact c = search rules

pub returns-else-rest-eq0-clause-exact : goal.returns-else-rest-eq0-clause-exact
unfolding points_at points_behind points_end
returns-else-rest-eq0-clause-exact c = search rules

pub returns-then-rest-eq0-clause-exact : goal.returns-then-rest-eq0-clause-exact
unfolding points_at points_behind points_end
returns-then-rest-eq0-clause-exact c = search rules
