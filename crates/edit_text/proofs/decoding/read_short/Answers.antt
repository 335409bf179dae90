use Rattle.std.proofs.Common.{arith}
use Rattle.std.proofs.Common.{rules}
use Rattle.std.proofs.lemmas.Grind.{common_steps}
use Rattle.edit_text.specs.Reading.{edit_most, decode_at}
use Rattle.edit_text.proofs.Faults.{take_edit_front}
use Rattle.edit_text.proofs.decoding.read_short.Goals as goal

pub returns-in-Err-Memory-clause-memory : goal.returns-in-Err-Memory-clause-memory
returns-in-Err-Memory-clause-memory c = λ _. take_edit_front edit_most c.args.bytes.now (c.in-Err-Memory.ensures.memory (cc))

pub returns-then-bytes-lt-MAX_BYTES-clause-edit : goal.returns-then-bytes-lt-MAX_BYTES-clause-edit
unfolding decode_at
returns-then-bytes-lt-MAX_BYTES-clause-edit c = search rules

pub returns-in-Ok-clause-edit : goal.returns-in-Ok-clause-edit
unfolding decode_at
returns-in-Ok-clause-edit c = grind (arith, common_steps)

pub returns-in-Err-Cut : goal.returns-in-Err-Cut
unfolding decode_at
returns-in-Err-Cut c = grind (arith, common_steps)
