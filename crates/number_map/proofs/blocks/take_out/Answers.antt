use Rattle.std.proofs.Common.{sym, ap, subst, ◌∙◌, arith}
use Rattle.std.specs.Ordering.{nat_cmp}
use Rattle.std.specs.BTreeMap.{is_at}
use Rattle.std.specs.Map.{lookup}
use Rattle.number_map.specs.Blocks.{firsts_of, Ascends, AreFilled}
use Rattle.number_map.proofs.Filled.{filled_but_set}
use Rattle.number_map.proofs.Firsts.{firsts_len, firsts_written, blocks_same}
use Rattle.number_map.proofs.Home.{ascends_at, lookup_home, removed_home}
use Rattle.number_map.proofs.blocks.take_out.Goals as goal

pub index-requires : goal.index-requires
index-requires g c = omega (arith, firsts_len c.args.blocks.now.items c.args.firsts.now.items c.requires.firsts)

pub remove-requires : goal.remove-requires
remove-requires g c =
    subst Ascends (sym c.index_mut.ensures.value)
    (ascends_at c.args.blocks.now.items c.args.at c.index_mut.result.now c.requires.order.ascending (omega arith))

-- the number was there
pub returns-in-Some-clause-entries : goal.returns-in-Some-clause-entries
returns-in-Some-clause-entries g c =
    c.tidy.ensures.entries
    ∙ removed_home c.args.blocks.now.items c.args.number c.args.at c.requires.home c.index_mut.result.now c.remove.new.self (omega arith)
    c.index_mut.ensures.value c.remove.ensures.entries

pub returns-in-Some-clause-removed : goal.returns-in-Some-clause-removed
returns-in-Some-clause-removed g c =
    sym c.in-Some.is
    ∙ c.remove.ensures.removed
    ∙ ap (lookup (is_at (nat_cmp c.args.number))) c.index_mut.ensures.value
    ∙ sym (lookup_home c.args.blocks.now.items c.args.number c.args.at c.requires.home c.index_mut.result.now (omega arith))

pub index_mut-requires-in-Some : goal.index_mut-requires-in-Some
index_mut-requires-in-Some g c = omega (arith, firsts_len c.args.blocks.now.items c.args.firsts.now.items c.requires.firsts)

pub tidy-requires-clause-filled : goal.tidy-requires-clause-filled
tidy-requires-clause-filled g c = filled_but_set c.args.blocks.now.items c.args.at c.remove.new.self c.requires.order.filled

pub tidy-requires-clause-firsts : goal.tidy-requires-clause-firsts
tidy-requires-clause-firsts g c =
    firsts_written c.args.blocks.now.items c.args.firsts.now.items c.args.at c.first.result c.remove.new.self c.index-in-Some.result.now (omega arith)
    c.requires.firsts c.index-in-Some.ensures c.first.ensures

-- the number was not there
pub returns-in-None-clause-entries : goal.returns-in-None-clause-entries
returns-in-None-clause-entries g c =
    removed_home c.args.blocks.now.items c.args.number c.args.at c.requires.home c.index_mut.result.now c.remove.new.self (omega arith)
    c.index_mut.ensures.value c.remove.ensures.entries

pub returns-in-None-clause-removed : goal.returns-in-None-clause-removed
returns-in-None-clause-removed g c =
    sym c.in-None.is
    ∙ c.remove.ensures.removed
    ∙ ap (lookup (is_at (nat_cmp c.args.number))) c.index_mut.ensures.value
    ∙ sym (lookup_home c.args.blocks.now.items c.args.number c.args.at c.requires.home c.index_mut.result.now (omega arith))

pub returns-in-None-clause-unchanged : goal.returns-in-None-clause-unchanged
returns-in-None-clause-unchanged g c =
    blocks_same c.args.blocks.now.items c.args.at c.index_mut.result.now c.remove.new.self c.index_mut.ensures.value c.in-None.ensures.unchanged

pub returns-in-None-clause-filled : goal.returns-in-None-clause-filled
returns-in-None-clause-filled g c =
    subst AreFilled (sym (blocks_same c.args.blocks.now.items c.args.at c.index_mut.result.now c.remove.new.self c.index_mut.ensures.value
    c.in-None.ensures.unchanged)) c.requires.order.filled

pub returns-in-None-clause-firsts : goal.returns-in-None-clause-firsts
returns-in-None-clause-firsts g c =
    c.requires.firsts
    ∙ ap firsts_of (sym (blocks_same c.args.blocks.now.items c.args.at c.index_mut.result.now c.remove.new.self c.index_mut.ensures.value
    c.in-None.ensures.unchanged))
