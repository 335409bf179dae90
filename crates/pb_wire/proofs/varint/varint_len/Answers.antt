use Rattle.std.proofs.Common.{arith, ap, length}
use Rattle.pb_wire.proofs.Varints.{varint_last, varint_shorter, varint_spells}
use Rattle.pb_wire.proofs.varint.varint_len.Goals as goal

pub overflow_add-len : goal.overflow_add-len
overflow_add-len c = omega (arith, c.loop-rest.invariant, (varint_spells c.args.n (omega arith)).len)

pub loop-rest-preserved : goal.loop-rest-preserved
loop-rest-preserved c = omega (arith, c.loop-rest.invariant, varint_shorter c.loop-rest.rest (omega arith) c.loop-rest-test.true)

pub returns : goal.returns
returns c = omega (arith, c.loop-rest.invariant, ap length (varint_last c.loop-rest.rest (omega arith)))
