use Rattle.edit_json.proofs.BatchLaws.{DifferTo}
use Rattle.edit_json.proofs.batches.differ.Given as goal

abbrev pub invariant-loop-i : goal.invariant-loop-i
invariant-loop-i l = DifferTo l.i l.numbers
