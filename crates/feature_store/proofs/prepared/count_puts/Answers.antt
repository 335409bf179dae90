use Rattle.std.proofs.Common.{arith}
use Rattle.feature_store.proofs.Puts.{puts_more, puts_all}
use Rattle.feature_store.proofs.prepared.count_puts.Goals as goal

pub loop-change-preserved : goal.loop-change-preserved
loop-change-preserved c =
    let one = puts_more c.args.changes.now c.loop-change.change-index c.change-item.result c.loop-change-test.true c.change-item.is in
    let so_far = c.loop-change.invariant in
    (omega (arith, so_far.0, one, c.puts_of-count.ensures.exact), omega (arith, so_far.1, c.puts_of-count.ensures.most))

pub returns : goal.returns
returns c =
    omega (arith, c.loop-change.invariant.0, puts_all c.args.changes.now c.loop-change.change-index c.loop-change-test.false)
