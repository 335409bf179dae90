use Rattle.edit_text.specs.Reading.{line_at}
use Rattle.edit_text.proofs.CheckedLists.{ManyAt}
use Rattle.edit_text.proofs.checked_shapes.check_each_line.Given as goal

-- some were read up to here
abbrev pub invariant-loop : goal.invariant-loop
invariant-loop l = ManyAt (λ _. line_at l.least) l.count l.counter l.rest l.bytes
