use Rattle.std.proofs.Common.{arith}
use Rattle.std.proofs.Common.{rules}
use Rattle.std.proofs.lemmas.Grind.{common_steps}
use Rattle.edit_text.specs.Reading.{decode_change_at}
use Rattle.edit_text.proofs.checking.check_short_change.Goals as goal

pub returns-then-bytes-lt-MAX_CHANGE_BYTES : goal.returns-then-bytes-lt-MAX_CHANGE_BYTES
unfolding decode_change_at
returns-then-bytes-lt-MAX_CHANGE_BYTES c = search rules

pub returns-in-Ok : goal.returns-in-Ok
unfolding decode_change_at
returns-in-Ok c = grind (arith, common_steps)

pub returns-in-Err-Cut : goal.returns-in-Err-Cut
unfolding decode_change_at
returns-in-Err-Cut c = grind (arith, common_steps)

pub returns-in-Err-Memory : goal.returns-in-Err-Memory
unfolding decode_change_at
returns-in-Err-Memory c = grind (arith, common_steps)
