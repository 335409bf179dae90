use Rattle.std.proofs.Common.{Some, sym, ap, subst, ◌∙◌, arith}
use Rattle.number_map.specs.Blocks.{Ascends}
use Rattle.number_map.proofs.Entries.{found_in, lookup_found, lookup_gap}
use Rattle.number_map.proofs.block.Block.get.Goals as goal

pub index-requires : goal.index-requires
index-requires g c = omega (arith, found_in _ _ _ c.in-Ok.ensures.found, c.deref.ensures.len)

pub returns-in-Ok : goal.returns-in-Ok
returns-in-Ok g c =
    let found = rw c.deref.ensures.value at c.in-Ok.ensures.found in
    rw (← c.self.view_is) (sym (lookup_found _ _ _ c.index.result.now found ∙ ap (λ e. Some e.1) (sym c.index.ensures)))

pub returns-in-Err : goal.returns-in-Err
returns-in-Err g c =
    let gap = rw c.deref.ensures.value at c.in-Err.ensures.absent in
    rw (← c.self.view_is) (sym (lookup_gap _ _ _ (subst Ascends (sym c.self.view_is) c.requires) gap))
