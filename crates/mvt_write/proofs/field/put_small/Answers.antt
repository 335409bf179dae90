use Rattle.std.proofs.Common.{rules}
use Rattle.pb_wire.proofs.Varints.{varint_last}
use Rattle.mvt_write.proofs.field.put_small.Goals as goal

pub returns : goal.returns
returns c = rw (varint_last c.args.a c.requires.first, varint_last c.args.b c.requires.second) (search rules)
