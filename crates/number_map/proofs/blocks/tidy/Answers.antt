use Rattle.std.proofs.Common.{sym, ap, subst, ◌∙◌, arith}
use Rattle.std.proofs.lemmas.Grind.{common_steps}
use Rattle.std.proofs.lemmas.List.{nil_from_length}
use Rattle.number_map.specs.Blocks.{joined, firsts_of, AreFilled}
use Rattle.number_map.proofs.Filled.{filled_without}
use Rattle.number_map.proofs.Firsts.{firsts_len, firsts_removed}
use Rattle.number_map.proofs.Joined.{joined_without}
use Rattle.number_map.proofs.blocks.tidy.Goals as goal

-- the block has no entries
pub returns-then-len-eq0-clause-entries : goal.returns-then-len-eq0-clause-entries
returns-then-len-eq0-clause-entries g c =
    let none = nil_from_length c.index.result.now (omega (arith, c.len.ensures.count, c.if-len-eq0.true)) in
    ap joined c.remove-empty.ensures.by_index.2
    ∙ joined_without c.args.blocks.now.items c.args.at c.index.result.now (omega arith) (sym c.index.ensures ∙ none)

pub returns-then-len-eq0-clause-filled : goal.returns-then-len-eq0-clause-filled
returns-then-len-eq0-clause-filled g c =
    subst AreFilled (sym c.remove-empty.ensures.items) (filled_without c.args.blocks.now.items c.args.at (omega arith) c.requires.filled)

pub remove-requires : goal.remove-requires
remove-requires g c = omega (arith, firsts_len c.args.blocks.now.items c.args.firsts.now.items c.requires.firsts)

pub returns-then-len-eq0-clause-firsts : goal.returns-then-len-eq0-clause-firsts
returns-then-len-eq0-clause-firsts g c =
    c.remove.ensures.items
    ∙ firsts_removed c.args.blocks.now.items c.args.firsts.now.items c.args.at c.requires.firsts
    ∙ ap firsts_of (sym c.remove-empty.ensures.items)

pub join_next-requires-clause-filled : goal.join_next-requires-clause-filled
join_next-requires-clause-filled g c = grind (arith, common_steps)

pub returns-then-len-eq0-clause-capacity : goal.returns-then-len-eq0-clause-capacity
returns-then-len-eq0-clause-capacity g c = c.remove-empty.ensures.capacity

pub returns-then-len-eq0-clause-firsts_capacity : goal.returns-then-len-eq0-clause-firsts_capacity
returns-then-len-eq0-clause-firsts_capacity g c = c.remove.ensures.capacity

pub join_next-requires-clause-firsts : goal.join_next-requires-clause-firsts
join_next-requires-clause-firsts g c = c.requires.firsts

pub join_next-requires-2-clause-filled : goal.join_next-requires-2-clause-filled
join_next-requires-2-clause-filled g c = c.join_next.ensures.filled

pub join_next-requires-2-clause-firsts : goal.join_next-requires-2-clause-firsts
join_next-requires-2-clause-firsts g c = c.join_next.ensures.firsts

pub returns-clause-entries : goal.returns-clause-entries
returns-clause-entries g c = c.join_next-2.ensures.entries ∙ c.join_next.ensures.entries

pub returns-clause-filled : goal.returns-clause-filled
returns-clause-filled g c = c.join_next-2.ensures.filled

pub returns-clause-firsts : goal.returns-clause-firsts
returns-clause-firsts g c = c.join_next-2.ensures.firsts

pub returns-clause-len : goal.returns-clause-len
returns-clause-len g c = omega (arith, c.join_next-2.ensures.len, c.join_next.ensures.len)

pub returns-clause-capacity : goal.returns-clause-capacity
returns-clause-capacity g c = c.join_next-2.ensures.capacity ∙ c.join_next.ensures.capacity

pub returns-clause-firsts_len : goal.returns-clause-firsts_len
returns-clause-firsts_len g c = omega (arith, c.join_next-2.ensures.firsts_len, c.join_next.ensures.firsts_len)

pub returns-clause-firsts_capacity : goal.returns-clause-firsts_capacity
returns-clause-firsts_capacity g c = c.join_next-2.ensures.firsts_capacity ∙ c.join_next.ensures.firsts_capacity
