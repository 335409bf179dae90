use Rattle.std.proofs.Common.{All}
use Rattle.feature_model.specs.Spelled.{spelled_line}
use Rattle.feature_model.specs.Types.{IsOfWorld}
use Rattle.edit_text.proofs.Texts.{IsPut}
use Rattle.edit_text.proofs.encoding.put_lines.Given as goal

abbrev pub invariant-loop-line : goal.invariant-loop-line
invariant-loop-line l = IsPut spelled_line (All IsOfWorld) (λ l. l.items) l.lines l.line-index l.initial.out.items l.out.items
