use Rattle.std.proofs.Common.{Some, sym, ap, ◌∙◌, arith}
use Rattle.number_map.proofs.Entries.{found_in, gap_in, lookup_found, lookup_gap, set_found, insert_gap}
use Rattle.number_map.proofs.block.insert_into.Goals as goal

-- the number was there
pub index_mut-requires : goal.index_mut-requires
index_mut-requires g c = omega (arith, found_in _ _ _ c.in-Ok.ensures.found, c.deref.ensures.len)

pub returns-in-Ok-clause-entries : goal.returns-in-Ok-clause-entries
returns-in-Ok-clause-entries g c =
    let found = rw c.deref.ensures.value at c.in-Ok.ensures.found in
    rw (c.replace.ensures.after) (set_found _ _ _ _ found)

pub returns-in-Ok-clause-before : goal.returns-in-Ok-clause-before
returns-in-Ok-clause-before g c =
    let found = rw c.deref.ensures.value at c.in-Ok.ensures.found in
    let there = c.replace.ensures.value ∙ c.index_mut.ensures.value in
    (sym (lookup_found _ _ _ c.index_mut.result.now found ∙ ap (λ e. Some e.1) (sym there)))

-- the number was not there
pub insert-requires : goal.insert-requires
insert-requires g c = omega (arith, gap_in _ _ _ c.in-Err.ensures.absent, c.deref.ensures.len)

pub returns-then-len-ge-CAPACITY-clause-absent : goal.returns-then-len-ge-CAPACITY-clause-absent
returns-then-len-ge-CAPACITY-clause-absent g c =
    lookup_gap _ _ _ c.requires.ascending (rw c.deref.ensures.value at c.in-Err.ensures.absent)

pub returns-else-len-ge-CAPACITY-clause-entries : goal.returns-else-len-ge-CAPACITY-clause-entries
returns-else-len-ge-CAPACITY-clause-entries g c =
    let gap = rw c.deref.ensures.value at c.in-Err.ensures.absent in
    (rw c.unwrap.ensures at c.insert.ensures.items ∙ insert_gap _ _ _ c.args.value gap)

pub returns-else-len-ge-CAPACITY-clause-before : goal.returns-else-len-ge-CAPACITY-clause-before
returns-else-len-ge-CAPACITY-clause-before g c =
    let gap = rw c.deref.ensures.value at c.in-Err.ensures.absent in
    (sym (lookup_gap _ _ _ c.requires.ascending gap))
