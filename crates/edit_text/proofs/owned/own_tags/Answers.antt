use Rattle.std.proofs.Common.{length, ap, arith}
use Rattle.std.proofs.lemmas.Grind.{common_steps}
use Rattle.edit_text.proofs.owned.own_tags.Goals as goal

pub loop-tag-preserved : goal.loop-tag-preserved
loop-tag-preserved c = record {
  room = omega (arith, c.loop-tag.invariant.room, ap length c.in-Some.ensures.steps, c.push_reserved.ensures.len, c.push_reserved.ensures.capacity);
  done = grind (arith, common_steps);
}

pub push_reserved-requires : goal.push_reserved-requires
push_reserved-requires c = omega (arith, c.loop-tag.invariant.room, ap length c.in-Some.ensures.steps)
