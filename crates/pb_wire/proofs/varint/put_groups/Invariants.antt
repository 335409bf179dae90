use Rattle.std.proofs.Common.{◌≡◌, ◌+◌, ◌≤◌, ◌++◌, length}
use Rattle.std.specs.Prelude.{vec_len, vec_capacity}
use Rattle.pb_wire.specs.Varint.{varint}
use Rattle.pb_wire.proofs.varint.put_groups.Given as goal

-- what is written so far and the spelling of the rest are the whole, and there is room for the rest
abbrev pub invariant-loop-rest : goal.invariant-loop-rest
invariant-loop-rest l = record {
  whole : l.out.items ++ varint l.rest ≡ l.fn.out.items ++ varint l.n;
  room : vec_len l.out + length (varint l.rest) ≤ vec_capacity l.out;
}

abbrev pub decreases-loop-rest : goal.decreases-loop-rest
decreases-loop-rest l = l.rest
