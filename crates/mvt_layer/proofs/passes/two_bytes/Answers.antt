use Rattle.std.proofs.Common.{arith}
use Rattle.mvt_layer.proofs.Folds.{two_read}
use Rattle.mvt_layer.proofs.passes.two_bytes.Goals as goal

pub returns : goal.returns
returns c = (
  omega (arith, c.if-bytes-lt2.false),
  two_read c.args.bytes.now (omega (arith, c.if-bytes-lt2.false)) (omega (arith, c.if-low-lt128.false))
      (omega (arith, c.if-high-gt127.false)),
)
