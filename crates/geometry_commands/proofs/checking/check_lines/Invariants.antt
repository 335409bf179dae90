use Rattle.std.proofs.Common.{◌≡◌, List, length}
use Rattle.geometry_commands.specs.declared.point.Pt.{Pt}
use Rattle.geometry_commands.specs.Decoding.{lines_in, lines_at}
use Rattle.geometry_commands.proofs.checking.check_lines.Given as goal

-- there are lines after which the rest is
abbrev pub invariant-loop-rest : goal.invariant-loop-rest
invariant-loop-rest l = (before : List (List Pt)) × (lines_in (length l.rest) l.closed before l.at l.rest ≡ lines_at l.closed l.ints)

abbrev pub decreases-loop-rest : goal.decreases-loop-rest
decreases-loop-rest l = length l.rest
