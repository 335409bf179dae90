use Rattle.std.proofs.Common.{◌≡◌, ◌+◌, length}
use Rattle.pb_wire.specs.Varint.{varint}
use Rattle.pb_wire.proofs.varint.varint_len.Given as goal

-- the bytes before the rest's, and one
abbrev pub invariant-loop-rest : goal.invariant-loop-rest
invariant-loop-rest l = l.len + length (varint l.rest) ≡ 1 + length (varint l.n)

abbrev pub decreases-loop-rest : goal.decreases-loop-rest
decreases-loop-rest l = l.rest
