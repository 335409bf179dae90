use Rattle.std.proofs.Common.{◌≡◌, ◌++◌, drop}
use Rattle.std.specs.List.{flat_map}
use Rattle.pb_wire.specs.Varint.{varint}
use Rattle.geometry_commands.specs.Commands.{AreNear, steps}
use Rattle.geometry_commands.specs.Shapes.{last_of}
use Rattle.geometry_commands.proofs.packed.PackedShape.put_points.Given as goal

-- what is packed, and the way along what is left
abbrev pub invariant-loop-point : goal.invariant-loop-point
invariant-loop-point l = record {
  bytes : l.self.bytes.items ++ flat_map varint (steps l.self.at (drop l.point-index l.points))
      ≡ l.initial.self.bytes.items ++ flat_map varint (steps l.initial.self.at l.points);
  near : AreNear l.self.at (drop l.point-index l.points);
  last : last_of l.self.at (drop l.point-index l.points) ≡ last_of l.initial.self.at l.points;
}
