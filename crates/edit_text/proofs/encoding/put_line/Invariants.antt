use Rattle.feature_model.specs.Spelled.{spelled_point}
use Rattle.feature_model.specs.Types.{IsOfWorld}
use Rattle.edit_text.proofs.Texts.{IsPut}
use Rattle.edit_text.proofs.encoding.put_line.Given as goal

abbrev pub invariant-loop-point : goal.invariant-loop-point
invariant-loop-point l = IsPut spelled_point IsOfWorld (λ p. p) l.points l.point-index l.initial.out.items l.out.items
