use Rattle.std.proofs.Common.{length, ◌-◌, ◌+◌, ◌≡◌, drop}
use Rattle.matchit.specs.Seek.{segment}
use Rattle.tile_routes.proofs.parts.part_end.Given as goal

abbrev pub invariant-loop-end : goal.invariant-loop-end
invariant-loop-end l = l.end + length (segment (drop l.end l.path)) ≡ l.at + length (segment (drop l.at l.path))

abbrev pub decreases-loop-end : goal.decreases-loop-end
decreases-loop-end l = length l.path - l.end
