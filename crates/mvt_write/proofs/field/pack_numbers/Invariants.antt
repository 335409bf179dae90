use Rattle.std.proofs.Common.{◌≡◌, take}
use Rattle.std.specs.List.{flat_map}
use Rattle.pb_wire.specs.Varint.{varint}
use Rattle.mvt_write.proofs.field.pack_numbers.Given as goal

abbrev pub invariant-loop-n : goal.invariant-loop-n
invariant-loop-n l = l.packed.items ≡ flat_map varint (take l.n-index l.numbers)
