use Rattle.std.proofs.Common.{arith}
use Rattle.std.proofs.lemmas.Grind.{common_steps}
use Rattle.geometry_commands.proofs.encode.put_steps.Goals as goal

pub put_step-requires-clause-near : goal.put_step-requires-clause-near
put_step-requires-clause-near c = grind (arith, common_steps)

pub put_step-requires-clause-room : goal.put_step-requires-clause-room
put_step-requires-clause-room c =
    omega (arith, c.loop-point.invariant.len, c.loop-point.invariant.capacity, c.requires.room, c.loop-point-test.true)

pub loop-point-preserved : goal.loop-point-preserved
loop-point-preserved c = grind (arith, common_steps)

pub returns-clause-steps : goal.returns-clause-steps
returns-clause-steps c = grind (arith, common_steps)

pub returns-clause-last : goal.returns-clause-last
returns-clause-last c = grind (arith, common_steps)

pub returns-clause-fits : goal.returns-clause-fits
returns-clause-fits c = grind (arith, common_steps)
