use Rattle.std.proofs.Common.{Some, sym, ap, ◌∙◌, arith}
use Rattle.number_map.proofs.Entries.{found_in, lookup_found, lookup_gap, remove_found, remove_gap}
use Rattle.number_map.proofs.block.remove_from.Goals as goal

-- the number was there
pub remove-requires : goal.remove-requires
remove-requires g c = omega (arith, found_in _ _ _ c.in-Ok.ensures.found, c.deref.ensures.len)

pub returns-in-Ok-clause-entries : goal.returns-in-Ok-clause-entries
returns-in-Ok-clause-entries g c =
    let found = rw c.deref.ensures.value at c.in-Ok.ensures.found in
    (c.remove.ensures.items ∙ remove_found _ _ _ found)

pub returns-in-Ok-clause-removed : goal.returns-in-Ok-clause-removed
returns-in-Ok-clause-removed g c =
    let found = rw c.deref.ensures.value at c.in-Ok.ensures.found in
    (sym (lookup_found _ _ _ c.remove.result found ∙ ap (λ e. Some e.1) (sym c.remove.ensures.value)))

-- the number was not there
pub returns-in-Err-clause-entries : goal.returns-in-Err-clause-entries
returns-in-Err-clause-entries g c =
    let gap = rw c.deref.ensures.value at c.in-Err.ensures.absent in
    (sym (remove_gap _ _ _ c.requires gap))

pub returns-in-Err-clause-removed : goal.returns-in-Err-clause-removed
returns-in-Err-clause-removed g c =
    let gap = rw c.deref.ensures.value at c.in-Err.ensures.absent in
    (sym (lookup_gap _ _ _ c.requires gap))
