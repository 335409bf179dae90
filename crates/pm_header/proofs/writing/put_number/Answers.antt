use Rattle.std.proofs.Common.{arith}
use Rattle.std.proofs.lemmas.Grind.{common_steps}
use Rattle.pm_header.proofs.writing.put_number.Goals as goal

pub returns : goal.returns
returns c = grind (arith, common_steps)
