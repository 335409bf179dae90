use Rattle.std.proofs.lemmas.Grind.{common_steps}
use Rattle.std.proofs.Common.{arith}
use Rattle.geometry_commands.proofs.packed.PackedShape.put_points.Goals as goal

pub put_point-requires : goal.put_point-requires
put_point-requires c = grind (arith, common_steps)

pub loop-point-preserved : goal.loop-point-preserved
loop-point-preserved c = grind (arith, common_steps)

pub returns-clause-bytes : goal.returns-clause-bytes
returns-clause-bytes c = grind (arith, common_steps)

pub returns-clause-at : goal.returns-clause-at
returns-clause-at c = grind (arith, common_steps)
