use Rattle.std.proofs.Common.{◌≡◌, ◌+◌, ◌*◌, ◌≤◌, length, map, take}
use Rattle.std.specs.List.{flat_map}
use Rattle.feature_model.specs.Lengths.{line_most}
use Rattle.feature_model.specs.Spelled.{spelled_line}
use Rattle.feature_model.proofs.lengths.lines_len.Given as goal

abbrev pub invariant-loop-line : goal.invariant-loop-line
invariant-loop-line l = (l.len ≡ 2 + length (flat_map spelled_line (map (λ v. v.items) (take l.line-index l.lines)))) × (l.len ≤ 2 + line_most * l.line-index)
