use Rattle.feature_model.specs.declared.limits.TheConstants.{MIN_RING}
use Rattle.edit_text.specs.Reading.{lines_at}
use Rattle.edit_text.proofs.CheckedLists.{ManyAt}
use Rattle.edit_text.proofs.checked_shapes.check_each_polygon.Given as goal

-- some were read up to here
abbrev pub invariant-loop : goal.invariant-loop
invariant-loop l = ManyAt (λ _. lines_at MIN_RING) l.count l.counter l.rest l.bytes
