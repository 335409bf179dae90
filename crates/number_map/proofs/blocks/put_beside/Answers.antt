use Rattle.std.proofs.Common.{◌+◌, set, sym, ap, subst, ◌∙◌, arith}
use Rattle.std.proofs.lemmas.Grind.{common_steps}
use Rattle.std.specs.Ordering.{nat_cmp}
use Rattle.std.specs.BTreeMap.{insert_entry}
use Rattle.number_map.specs.Blocks.{joined, firsts_of, Ascends, AreFilled}
use Rattle.number_map.proofs.Entries.{ascends_none, length_set_some}
use Rattle.number_map.proofs.Filled.{IsFilled, filled_set, filled_insert, filled_pushed}
use Rattle.number_map.proofs.Firsts.{firsts_len, firsts_inserted, firsts_pushed, firsts_written}
use Rattle.number_map.proofs.Home.{ascends_at, set_home_two, set_last}
use Rattle.number_map.proofs.blocks.put_beside.Goals as goal

-- half of a block moves to the empty one
pub halve-upper-requires-clause-ascending : goal.halve-upper-requires-clause-ascending
halve-upper-requires-clause-ascending g c =
    subst Ascends (sym c.index_mut.ensures.value)
    (ascends_at c.args.blocks.now.items c.args.at c.index_mut.result.now c.requires.order.ascending (omega arith))

pub index_mut-requires-then-at-len : goal.index_mut-requires-then-at-len
index_mut-requires-then-at-len g c = omega (arith, firsts_len c.args.blocks.now.items c.args.firsts.now.items c.requires.firsts)

pub insert-requires : goal.insert-requires
insert-requires g c = omega (arith, firsts_len c.args.blocks.now.items c.args.firsts.now.items c.requires.firsts)

pub unwrap-requires : goal.unwrap-requires
unwrap-requires g c = c.insert.ensures.succeeds (omega (arith, c.requires.firsts_room))

pub unwrap-requires-then-at-len : goal.unwrap-requires-then-at-len
unwrap-requires-then-at-len g c = c.insert-then-at-len.ensures.succeeds (omega (arith, c.requires.room))

pub returns-then-at-len-clause-entries : goal.returns-then-at-len-clause-entries
returns-then-at-len-clause-entries g c =
    ap joined (rw c.unwrap-then-at-len.ensures at c.insert-then-at-len.ensures.items)
    ∙ set_home_two c.args.blocks.now.items c.args.number c.args.at c.requires.home c.args.value c.index_mut.result.now
    c.halve-upper.new.lower c.halve-upper.result (omega arith) c.index_mut.ensures.value c.halve-upper.ensures.entries

pub returns-then-at-len-clause-filled : goal.returns-then-at-len-clause-filled
returns-then-at-len-clause-filled g c =
    let both = filled_set c.args.blocks.now.items c.args.at c.halve-upper.new.lower c.halve-upper.ensures.lower_filled c.requires.order.filled in
    subst AreFilled (sym (rw c.unwrap-then-at-len.ensures at c.insert-then-at-len.ensures.items))
    (filled_insert (set c.args.blocks.now.items c.args.at c.halve-upper.new.lower) (c.args.at + 1) c.halve-upper.result
    c.halve-upper.ensures.upper_filled both)

pub returns-then-at-len-clause-firsts : goal.returns-then-at-len-clause-firsts
returns-then-at-len-clause-firsts g c =
    let written = firsts_written c.args.blocks.now.items c.args.firsts.now.items c.args.at c.first.result c.halve-upper.new.lower c.index.result.now
    (omega arith) c.requires.firsts c.index.ensures c.first.ensures in
    rw c.unwrap.ensures at c.insert.ensures.items
    ∙ firsts_inserted (set c.args.blocks.now.items c.args.at c.halve-upper.new.lower) (set c.args.firsts.now.items c.args.at c.first.result)
    (c.args.at + 1) c.first-then-at-len.result c.halve-upper.result written c.first-then-at-len.ensures
    ∙ ap firsts_of (sym (rw c.unwrap-then-at-len.ensures at c.insert-then-at-len.ensures.items))

pub returns-then-at-len-clause-len : goal.returns-then-at-len-clause-len
returns-then-at-len-clause-len g c = omega (arith, rw c.unwrap-then-at-len.ensures at c.insert-then-at-len.ensures.len)

pub returns-then-at-len-clause-firsts_len : goal.returns-then-at-len-clause-firsts_len
returns-then-at-len-clause-firsts_len g c = omega (arith, rw c.unwrap.ensures at c.insert.ensures.len)

-- there is no block yet
pub add-requires-clause-ascending : goal.add-requires-clause-ascending
add-requires-clause-ascending g c = subst Ascends (sym c.requires.empty) ascends_none

pub unwrap-requires-else-at-len : goal.unwrap-requires-else-at-len
unwrap-requires-else-at-len g c = c.push.ensures.succeeds (omega (arith, c.requires.firsts_room))

pub unwrap-requires-else-at-len-2 : goal.unwrap-requires-else-at-len-2
unwrap-requires-else-at-len-2 g c = c.push-else-at-len.ensures.succeeds (omega (arith, c.requires.room))

pub returns-else-at-len-clause-entries : goal.returns-else-at-len-clause-entries
returns-else-at-len-clause-entries g c =
    ap joined (rw c.unwrap-else-at-len-2.ensures at c.push-else-at-len.ensures.items)
    ∙ set_last c.args.blocks.now.items c.args.number c.args.at c.requires.home c.args.value c.add.new.self (omega arith)
    (c.add.ensures ∙ ap (λ es. insert_entry nat_cmp es c.args.number c.args.value) c.requires.empty)

pub returns-else-at-len-clause-firsts : goal.returns-else-at-len-clause-firsts
returns-else-at-len-clause-firsts g c =
    rw c.unwrap-else-at-len.ensures at c.push.ensures.items
    ∙ firsts_pushed c.args.blocks.now.items c.args.firsts.now.items c.first-else-at-len.result c.add.new.self c.requires.firsts
    c.first-else-at-len.ensures
    ∙ ap firsts_of (sym (rw c.unwrap-else-at-len-2.ensures at c.push-else-at-len.ensures.items))

pub returns-else-at-len-clause-filled : goal.returns-else-at-len-clause-filled
returns-else-at-len-clause-filled g c =
    subst AreFilled (sym (rw c.unwrap-else-at-len-2.ensures at c.push-else-at-len.ensures.items))
    (filled_pushed c.args.blocks.now.items c.add.new.self
    (subst IsFilled (sym c.add.ensures) (length_set_some c.args.spare c.args.number c.args.value)) c.requires.order.filled)

pub returns-else-at-len-clause-len : goal.returns-else-at-len-clause-len
returns-else-at-len-clause-len g c = omega (arith, rw c.unwrap-else-at-len-2.ensures at c.push-else-at-len.ensures.len)

pub returns-else-at-len-clause-firsts_len : goal.returns-else-at-len-clause-firsts_len
returns-else-at-len-clause-firsts_len g c = omega (arith, rw c.unwrap-else-at-len.ensures at c.push.ensures.len)

pub halve-upper-requires-clause-full : goal.halve-upper-requires-clause-full
halve-upper-requires-clause-full g c = grind (arith, common_steps)
