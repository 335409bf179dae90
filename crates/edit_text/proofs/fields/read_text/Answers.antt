use Rattle.std.proofs.Common.{arith}
use Rattle.std.proofs.lemmas.Grind.{common_steps}
use Rattle.edit_text.specs.Reading.{text_at}
use Rattle.edit_text.proofs.Utf8Tests.{utf8_tests}
use Rattle.edit_text.proofs.fields.read_text.Goals as goal

pub returns-in_err-front : goal.returns-in_err-front
unfolding text_at
returns-in_err-front c = grind (arith, common_steps, utf8_tests)

pub returns-in-Some : goal.returns-in-Some
unfolding text_at
returns-in-Some c = grind (arith, common_steps, utf8_tests)

pub returns-in-None : goal.returns-in-None
unfolding text_at
returns-in-None c = grind (arith, common_steps, utf8_tests)
