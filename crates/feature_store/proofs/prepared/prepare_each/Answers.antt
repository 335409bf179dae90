use Rattle.std.proofs.Common.{arith}
use Rattle.std.proofs.lemmas.Grind.{common_steps}
use Rattle.feature_model.specs.Data.{change_data}
use Rattle.feature_model.specs.Limits.{IsAllowedChange}
use Rattle.feature_model.proofs.Mapped.{read_from_map}
use Rattle.feature_store.proofs.prepared.prepare_each.Goals as goal

pub prepare_one-requires : goal.prepare_one-requires
prepare_one-requires c = read_from_map IsAllowedChange change_data c.args.changes.now c.loop-change.change-index c.change-item.result
    c.requires c.loop-change-test.true c.change-item.is

pub loop-change-preserved : goal.loop-change-preserved
loop-change-preserved c = record {
  len = omega (arith, c.loop-change.invariant.len, c.push_reserved.ensures.len);
  room = omega (arith, c.loop-change.invariant.room, c.push_reserved.ensures.capacity);
  read = grind (arith, common_steps);
}

pub push_reserved-requires : goal.push_reserved-requires
push_reserved-requires c = omega (arith, c.loop-change.invariant.len, c.loop-change.invariant.room, c.loop-change-test.true)

pub returns : goal.returns
returns c = grind (arith, common_steps)
