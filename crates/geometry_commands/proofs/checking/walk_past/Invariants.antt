use Rattle.std.proofs.Common.{◌≡◌, ◌-◌, List}
use Rattle.geometry_commands.specs.declared.point.Pt.{Pt}
use Rattle.geometry_commands.specs.Decoding.{walk_at}
use Rattle.geometry_commands.proofs.checking.walk_past.Given as goal

-- whatever points there were before, there are points of which the rest is
abbrev pub invariant-loop-i : goal.invariant-loop-i
invariant-loop-i l = (before : List Pt) → (all : List Pt) × (walk_at (l.count - l.i) all l.at l.rest ≡ walk_at l.count before l.fn.from l.ints)
