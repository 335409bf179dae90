use Rattle.std.proofs.Common.{◌-◌, ◌<◌, length, sym, ap, subst, ◌∙◌, arith}
use Rattle.number_map.specs.Blocks.{joined, last_number, AreFilled}
use Rattle.number_map.proofs.Last.{last_of_all, is_nothing}
use Rattle.number_map.proofs.number_map.NumberMap.last_number.Goals as goal

pub returns-in-Some-clause-last : goal.returns-in-Some-clause-last
returns-in-Some-clause-last g c =
    let there = c.in-Some.ensures.item in
    let bs = c.deref.result.now in
    let filled = subst AreFilled (sym c.deref.ensures.value) c.self.invariant.order.filled in
    rw (← c.self.view_is, ← c.deref.ensures.value)
    (c.last_number.ensures
    ∙ last_of_all bs (length bs - 1) c.in-Some.block.now (omega (arith, there.3.0)) there.1
    (subst (λ b. 0 < length b) (sym there.1) (filled (length bs - 1) c.in-Some.block.now (omega (arith, there.3.0)))))

pub returns-in-None-clause-last : goal.returns-in-None-clause-last
returns-in-None-clause-last g c =
    rw (← c.self.view_is, ← c.deref.ensures.value)
    (ap (λ bs. last_number (joined bs)) (sym (is_nothing c.deref.result.now c.in-None.ensures.item.3)))
