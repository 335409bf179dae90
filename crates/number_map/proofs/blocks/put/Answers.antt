use Rattle.std.proofs.Common.{[], length, sym, ap, subst, ◌∙◌, arith}
use Rattle.std.proofs.lemmas.List.{get_or-set_same}
use Rattle.std.specs.Ordering.{nat_cmp}
use Rattle.std.specs.BTreeMap.{is_at}
use Rattle.std.specs.Map.{lookup}
use Rattle.number_map.specs.Blocks.{firsts_of, Ascends, AreFilled}
use Rattle.number_map.proofs.Entries.{length_set_some}
use Rattle.number_map.proofs.Filled.{IsFilled, filled_set}
use Rattle.number_map.proofs.Firsts.{firsts_len, firsts_written, blocks_same}
use Rattle.number_map.proofs.Home.{ascends_at, absent_home, absent_past, lookup_home, set_home}
use Rattle.number_map.proofs.blocks.put.Goals as goal

-- there is no block
pub returns-then-at-len-clause-absent : goal.returns-then-at-len-clause-absent
returns-then-at-len-clause-absent g c = absent_past c.args.blocks.now.items c.args.number c.args.at c.requires.home (omega arith)

pub index-requires : goal.index-requires
index-requires g c = omega (arith, firsts_len c.args.blocks.now.items c.args.firsts.now.items c.requires.firsts)

pub insert-requires : goal.insert-requires
insert-requires g c =
    subst Ascends (sym c.index_mut.ensures.value)
    (ascends_at c.args.blocks.now.items c.args.at c.index_mut.result.now c.requires.order.ascending (omega arith))

-- the block has a place for it
pub index_mut-requires-in-Ok : goal.index_mut-requires-in-Ok
index_mut-requires-in-Ok g c = omega (arith, firsts_len c.args.blocks.now.items c.args.firsts.now.items c.requires.firsts)

pub returns-in-Ok-clause-entries : goal.returns-in-Ok-clause-entries
returns-in-Ok-clause-entries g c =
    set_home c.args.blocks.now.items c.args.number c.args.at c.requires.home c.args.value c.index_mut.result.now c.insert.new.self (omega arith)
    c.index_mut.ensures.value c.in-Ok.ensures.entries

pub returns-in-Ok-clause-before : goal.returns-in-Ok-clause-before
returns-in-Ok-clause-before g c =
    c.in-Ok.ensures.before
    ∙ ap (lookup (is_at (nat_cmp c.args.number))) c.index_mut.ensures.value
    ∙ sym (lookup_home c.args.blocks.now.items c.args.number c.args.at c.requires.home c.index_mut.result.now (omega arith))

pub returns-in-Ok-clause-filled : goal.returns-in-Ok-clause-filled
returns-in-Ok-clause-filled g c =
    filled_set c.args.blocks.now.items c.args.at c.insert.new.self
    (subst IsFilled (sym c.in-Ok.ensures.entries) (length_set_some c.index_mut.result.now c.args.number c.args.value)) c.requires.order.filled

pub returns-in-Ok-clause-firsts : goal.returns-in-Ok-clause-firsts
returns-in-Ok-clause-firsts g c =
    firsts_written c.args.blocks.now.items c.args.firsts.now.items c.args.at c.first.result c.insert.new.self c.index-in-Ok.result.now (omega arith)
    c.requires.firsts c.index-in-Ok.ensures c.first.ensures

-- it is full
pub returns-in-Err-clause-absent : goal.returns-in-Err-clause-absent
returns-in-Err-clause-absent g c =
    absent_home c.args.blocks.now.items c.args.number c.args.at c.requires.home c.index_mut.result.now (omega arith) c.index_mut.ensures.value
    c.in-Err.ensures.absent

pub returns-in-Err-clause-unchanged : goal.returns-in-Err-clause-unchanged
returns-in-Err-clause-unchanged g c =
    blocks_same c.args.blocks.now.items c.args.at c.index_mut.result.now c.insert.new.self c.index_mut.ensures.value c.in-Err.ensures.unchanged

pub returns-in-Err-clause-filled : goal.returns-in-Err-clause-filled
returns-in-Err-clause-filled g c =
    subst AreFilled (sym (blocks_same c.args.blocks.now.items c.args.at c.index_mut.result.now c.insert.new.self c.index_mut.ensures.value
    c.in-Err.ensures.unchanged)) c.requires.order.filled

pub returns-in-Err-clause-firsts : goal.returns-in-Err-clause-firsts
returns-in-Err-clause-firsts g c =
    c.requires.firsts
    ∙ ap firsts_of (sym (blocks_same c.args.blocks.now.items c.args.at c.index_mut.result.now c.insert.new.self c.index_mut.ensures.value
    c.in-Err.ensures.unchanged))

pub returns-in-Err-clause-full : goal.returns-in-Err-clause-full
returns-in-Err-clause-full g c = λ within.
    let there = get_or-set_same c.args.blocks.now.items c.args.at c.insert.new.self [] (omega arith) in
    omega (arith, ap length there, ap length c.in-Err.ensures.unchanged, c.in-Err.ensures.full)
