use Rattle.std.proofs.Common.{◌-◌, length, refl, sym, ap, subst, ◌∙◌, arith}
use Rattle.std.proofs.lemmas.Grind.{common_steps}
use Rattle.std.specs.Option.{is_some}
use Rattle.number_map.specs.Blocks.{joined, Ascends}
use Rattle.number_map.proofs.Entries.{ascends_removed, length_removed}
use Rattle.number_map.proofs.Firsts.{firsts_ascend}
use Rattle.number_map.proofs.Home.{home_at}
use Rattle.number_map.proofs.Places.{at_most, room_stays}
use Rattle.number_map.proofs.number_map.NumberMap.remove.Goals as goal

pub take_out-removed-requires-clause-home : goal.take_out-removed-requires-clause-home
take_out-removed-requires-clause-home g c =
    home_at c.self.inside.blocks.items c.deref.result.now c.args.number c.home_of-at.result c.self.invariant.order
    (c.deref.ensures.value ∙ c.self.invariant.firsts) c.home_of-at.ensures

-- the number was there
pub home_of-at-requires : goal.home_of-at-requires
home_of-at-requires g c =
    firsts_ascend c.self.inside.blocks.items c.deref.result.now c.self.invariant.order (c.deref.ensures.value ∙ c.self.invariant.firsts)

pub invariant_of-self : goal.invariant_of-self
invariant_of-self g c =
    let es = joined c.self.inside.blocks.items in
    let n = c.args.number in
    let facts = c.take_out-removed.ensures in
    let some = ap is_some (sym facts.removed) ∙ sym c.is_some.ensures ∙ c.if-is_some.true in
    record {
      order =
          record { ascending = subst Ascends (sym facts.entries) (ascends_removed es n c.self.invariant.order.ascending); filled = facts.filled };
      firsts = facts.firsts;
      count = omega (arith, ap length facts.entries, length_removed es n some, c.self.invariant.count);
      spare = c.self.invariant.spare;
    }

pub overflow_sub-self : goal.overflow_sub-self
overflow_sub-self g c = grind (arith, common_steps)

pub returns-then-at-len-clause-entries : goal.returns-then-at-len-clause-entries
returns-then-at-len-clause-entries g c = grind (arith, common_steps)

pub returns-then-at-len-clause-removed : goal.returns-then-at-len-clause-removed
returns-then-at-len-clause-removed g c = grind (arith, common_steps)

pub take_out-removed-requires-clause-order : goal.take_out-removed-requires-clause-order
take_out-removed-requires-clause-order g c = c.self.invariant.order

pub take_out-removed-requires-clause-firsts : goal.take_out-removed-requires-clause-firsts
take_out-removed-requires-clause-firsts g c = c.self.invariant.firsts

pub take_out-removed-requires-clause-within : goal.take_out-removed-requires-clause-within
take_out-removed-requires-clause-within g c = omega (arith, c.if-at-len.false, c.len.ensures)

pub returns-then-is_some-clause-entries : goal.returns-then-is_some-clause-entries
returns-then-is_some-clause-entries g c = rw (← c.self.view_is) c.take_out-removed.ensures.entries

pub returns-then-is_some-clause-removed : goal.returns-then-is_some-clause-removed
returns-then-is_some-clause-removed g c = rw (← c.self.view_is) c.take_out-removed.ensures.removed

pub returns-then-is_some-clause-spare : goal.returns-then-is_some-clause-spare
returns-then-is_some-clause-spare g c =
    let facts = c.take_out-removed.ensures in
    let left = c.take_out-removed.new in
    rw (← c.self.view_is) (room_stays c.self.inside
    (record { firsts = left.firsts; blocks = left.blocks; spare = c.self.inside.spare; len = c.self.inside.len - 1 })
    (record {
      spare = at_most refl;
      firsts_len = facts.firsts_len;
      firsts_capacity = at_most (sym facts.firsts_capacity);
      len = facts.len;
      capacity = at_most (sym facts.capacity);
    }) (omega arith))

pub returns-else-is_some-clause-entries : goal.returns-else-is_some-clause-entries
returns-else-is_some-clause-entries g c = rw (← c.self.view_is) c.take_out-removed.ensures.entries

pub returns-else-is_some-clause-removed : goal.returns-else-is_some-clause-removed
returns-else-is_some-clause-removed g c = rw (← c.self.view_is) c.take_out-removed.ensures.removed

pub returns-else-is_some-clause-spare : goal.returns-else-is_some-clause-spare
returns-else-is_some-clause-spare g c =
    let facts = c.take_out-removed.ensures in
    let left = c.take_out-removed.new in
    rw (← c.self.view_is) (room_stays c.self.inside
    (record { firsts = left.firsts; blocks = left.blocks; spare = c.self.inside.spare; len = c.self.inside.len })
    (record {
      spare = at_most refl;
      firsts_len = facts.firsts_len;
      firsts_capacity = at_most (sym facts.firsts_capacity);
      len = facts.len;
      capacity = at_most (sym facts.capacity);
    }) (at_most refl))
