use Rattle.std.proofs.Common.{ap, ◌∙◌}
use Rattle.std.specs.Prelude.{slice_get}
use Rattle.number_map.proofs.From.{from_found, from_gap, item_there}
use Rattle.number_map.proofs.block.Block.first_from.Goals as goal

pub returns-in-Ok : goal.returns-in-Ok
returns-in-Ok g c =
    let found = rw c.deref.ensures.value at c.in-Ok.ensures.found in
    let item = item_there _ _ c.get.result _ c.get.ensures.lookup.1 c.get.ensures.lookup.3 in
    rw (← c.self.view_is)
    (item ∙ ap (λ es. slice_get es c.in-Ok.at) c.deref-in-Ok.ensures.value ∙ from_found _ _ _ found)

pub returns-in-Err : goal.returns-in-Err
returns-in-Err g c =
    let gap = rw c.deref.ensures.value at c.in-Err.ensures.absent in
    let item = item_there _ _ c.get-in-Err.result _ c.get-in-Err.ensures.lookup.1 c.get-in-Err.ensures.lookup.3 in
    rw (← c.self.view_is)
    (item ∙ ap (λ es. slice_get es c.in-Err.at) c.deref-in-Err.ensures.value ∙ from_gap _ _ _ gap)
