use Rattle.std.proofs.Common.{◌+◌, ◌≤◌, length, ◌≡◌, ◌++◌, map}
use Rattle.std.specs.Prelude.{vec_len, vec_capacity}
use Rattle.edit_text.specs.Views.{lines_view}
use Rattle.edit_text.proofs.owned.own_lines.Given as goal

-- those that are owned, and those that are left, for which there is room
abbrev pub invariant-loop-line : goal.invariant-loop-line
invariant-loop-line l = record {
  room : vec_len l.owned + length (lines_view l.line-iterator) ≤ vec_capacity l.owned;
  done : map (λ l. l.items) l.owned.items ++ lines_view l.line-iterator ≡ lines_view l.fn.lines;
}
