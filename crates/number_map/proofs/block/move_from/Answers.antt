use Rattle.std.proofs.Common.{arith}
use Rattle.std.proofs.lemmas.Grind.{common_steps}
use Rattle.number_map.proofs.block.move_from.Goals as goal

pub loop-entries-preserved : goal.loop-entries-preserved
loop-entries-preserved g c = grind (arith, common_steps)

pub returns-clause-front : goal.returns-clause-front
returns-clause-front g c = grind (arith, common_steps)

pub returns-clause-end : goal.returns-clause-end
returns-clause-end g c = grind (arith, common_steps)
