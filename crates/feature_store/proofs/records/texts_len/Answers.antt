use Rattle.std.proofs.Common.{arith}
use Rattle.feature_store.proofs.RecordTexts.{sum_short}
use Rattle.feature_store.proofs.records.texts_len.Goals as goal

pub overflow_add-len : goal.overflow_add-len
overflow_add-len c =
    omega (
      arith,
      c.loop-change.invariant,
      c.text_len-len.ensures,
      sum_short c.args.changes.now c.loop-change.change-index c.change-item.result c.loop-change-test.true c.change-item.is c.requires,
    )
