use Rattle.std.proofs.Common.{◌≡◌, ◌+◌, ◌*◌, ◌++◌, drop}
use Rattle.std.specs.Prelude.{vec_len, vec_capacity}
use Rattle.std.specs.List.{AllByRecursion}
use Rattle.geometry_commands.specs.Commands.{AreNear, steps}
use Rattle.geometry_commands.specs.Shapes.{last_of}
use Rattle.geometry_commands.specs.Ways.{FitsPt}
use Rattle.geometry_commands.proofs.encode.put_steps.Given as goal

-- what is written, and the way along what is left
abbrev pub invariant-loop-point : goal.invariant-loop-point
invariant-loop-point l = record {
  whole : l.out.items ++ steps l.at (drop l.point-index l.points) ≡ l.fn.out.items ++ steps l.fn.from l.points;
  near : AreNear l.at (drop l.point-index l.points);
  last : last_of l.at (drop l.point-index l.points) ≡ last_of l.fn.from l.points;
  fits : AllByRecursion FitsPt (drop l.point-index l.points) → AllByRecursion FitsPt l.points;
  len : vec_len l.out ≡ vec_len l.fn.out + 2 * l.point-index;
  capacity : vec_capacity l.out ≡ vec_capacity l.fn.out;
}
