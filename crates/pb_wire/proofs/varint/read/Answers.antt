use Rattle.std.proofs.Common.{sym}
use Rattle.pb_wire.proofs.ReadVarint.{read_short}
use Rattle.pb_wire.proofs.varint.read.Goals as goal

pub returns-in-Some-clause-exact : goal.returns-in-Some-clause-exact
returns-in-Some-clause-exact c = rw c.from.ensures (sym (read_short c.args.bytes.now c.in-Some.byte.now (sym c.in-Some.ensures.value) c.if-byte-lt128.true))
