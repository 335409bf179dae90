use Rattle.std.proofs.Common.{◌≡◌, ◌-◌, ◌*◌, ◌^◌, ◌<◌, ◌≤◌, drop}
use Rattle.pb_wire.specs.Varint.{read_in, varint_at}
use Rattle.pb_wire.proofs.ReadVarint.{with_value}
use Rattle.pb_wire.proofs.varint.read_groups.Given as goal

-- what is read so far and the number behind it are what stands in front
abbrev pub invariant-loop-i : goal.invariant-loop-i
invariant-loop-i l = record {
  whole : with_value l.value l.i (read_in (drop l.i l.bytes) (9 - l.i)) ≡ varint_at l.bytes;
  below : l.value < 2 ^ (7 * l.i);
  room : l.i ≤ 9;
}
