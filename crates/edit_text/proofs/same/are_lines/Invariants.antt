use Rattle.std.proofs.Common.{◌≡◌, map}
use Rattle.std.specs.Prelude.{◌↔◌}
use Rattle.edit_text.specs.Views.{lines_view}
use Rattle.edit_text.proofs.same.are_lines.Given as goal

-- those that are left are the same where all are
abbrev pub invariant-loop-line : goal.invariant-loop-line
invariant-loop-line l = (lines_view l.line-iterator ≡ map (λ l. l.items) l.left) ↔ (lines_view l.lines ≡ map (λ l. l.items) l.owned)
