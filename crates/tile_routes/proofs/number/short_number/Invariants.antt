use Rattle.std.proofs.Common.{length, ◌-◌}
use Rattle.tile_routes.proofs.Digits.{IsReading}
use Rattle.tile_routes.proofs.number.short_number.Given as goal

abbrev pub invariant-loop-i : goal.invariant-loop-i
invariant-loop-i l = IsReading l.text l.i l.number

abbrev pub decreases-loop-i : goal.decreases-loop-i
decreases-loop-i l = length l.text - l.i
