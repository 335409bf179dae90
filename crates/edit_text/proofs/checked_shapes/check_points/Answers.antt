use Rattle.std.proofs.Common.{[], arith}
use Rattle.edit_text.proofs.PointLists.{points_cut}
use Rattle.edit_text.proofs.CheckedLists.{points_rest}
use Rattle.edit_text.proofs.checked_shapes.check_points.Goals as goal

pub returns-then-bytes-len : goal.returns-then-bytes-len
returns-then-bytes-len c = points_cut c.args.count [] c.args.bytes.now (omega (arith, c.if-bytes-len.true, c.from-len.ensures))

pub returns : goal.returns
returns c = points_rest c.args.count c.from-len.result c.args.bytes.now c.from-len.ensures c.if-bytes-len.false
