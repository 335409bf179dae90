use Rattle.std.proofs.Common.{rules}
use Rattle.pb_wire.proofs.Varints.{varint_last}
use Rattle.pb_wire.proofs.varint.put_byte.Goals as goal

pub returns-in_err-reserve-clause-full : goal.returns-in_err-reserve-clause-full
returns-in_err-reserve-clause-full c = rw (varint_last c.args.byte c.requires) (search rules)

pub returns-clause-ok : goal.returns-clause-ok
returns-clause-ok c = rw (varint_last c.args.byte c.requires) (search rules)
