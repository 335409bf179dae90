use Rattle.std.proofs.Common.{ap, map, ◌∙◌, arith}
use Rattle.serde_json.specs.View.{view}
use Rattle.map_replies.proofs.FeedLemmas.{values_more, values_done}
use Rattle.map_replies.proofs.feed.change_values.Goals as goal

pub loop-change-preserved : goal.loop-change-preserved
loop-change-preserved c = record {
  len = omega (arith, c.loop-change.invariant.len, c.push_reserved.ensures.len);
  room = omega (arith, c.loop-change.invariant.room, c.push_reserved.ensures.capacity);
  done = ap (map view) c.push_reserved.ensures.items
      ∙ values_more c.args.changes.now c.loop-change.change-index c.change-item.result c.loop-change.all.items c.in_ok-value.value c.loop-change-test.true
      c.change-item.is c.in_ok-value.ensures c.loop-change.invariant.done;
}

pub returns : goal.returns
returns c = values_done c.args.changes.now c.loop-change.change-index c.loop-change.all.items c.loop-change-test.false c.loop-change.invariant.done

pub push_reserved-requires : goal.push_reserved-requires
push_reserved-requires c = omega (arith, c.loop-change.invariant.len, c.loop-change.invariant.room, c.loop-change-test.true)
