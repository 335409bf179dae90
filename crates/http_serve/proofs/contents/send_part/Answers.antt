use Rattle.std.proofs.Common.{arith}
use Rattle.std.proofs.lemmas.Grind.{common_steps}
use Rattle.http_serve.proofs.contents.send_part.Goals as goal

pub returns-in-Err-clause-sent : goal.returns-in-Err-clause-sent
returns-in-Err-clause-sent g c = grind (arith, common_steps)

pub returns-in-Ok-send_all-clause-sent : goal.returns-in-Ok-send_all-clause-sent
returns-in-Ok-send_all-clause-sent g c = grind (arith, common_steps)

pub returns-in-Err-send_all-clause-sent : goal.returns-in-Err-send_all-clause-sent
returns-in-Err-send_all-clause-sent g c = grind (arith, common_steps)
