use Rattle.std.proofs.lemmas.Grind.{common_steps}
use Rattle.std.proofs.Common.{arith}
use Rattle.tile_cutter.proofs.coordinates.coordinate_in.Goals as goal

pub overflow_sub-result : goal.overflow_sub-result
overflow_sub-result c = grind (arith, common_steps)

pub returns-clause-position : goal.returns-clause-position
returns-clause-position c = grind (arith, common_steps)

pub returns-clause-of_side : goal.returns-clause-of_side
returns-clause-of_side c = grind (arith, common_steps)
