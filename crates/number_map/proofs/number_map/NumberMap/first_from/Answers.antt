use Rattle.std.proofs.Common.{◌+◌, drop, sym, ap, subst, ◌∙◌, arith}
use Rattle.std.proofs.lemmas.Grind.{common_steps}
use Rattle.std.specs.Prelude.{slice_get}
use Rattle.std.specs.Option.{option_or}
use Rattle.number_map.specs.Blocks.{joined, Ascends}
use Rattle.number_map.proofs.Firsts.{firsts_ascend}
use Rattle.number_map.proofs.From.{from_home}
use Rattle.number_map.proofs.Home.{ascends_at, home_at}
use Rattle.number_map.proofs.number_map.NumberMap.first_from.Goals as goal

pub home_of-at-requires : goal.home_of-at-requires
home_of-at-requires g c =
    firsts_ascend c.self.inside.blocks.items c.deref.result.now c.self.invariant.order (c.deref.ensures.value ∙ c.self.invariant.firsts)

pub first_from-requires : goal.first_from-requires
first_from-requires g c =
    subst Ascends (sym c.index.ensures)
    (ascends_at c.self.inside.blocks.items c.home_of-at.result c.index.result.now c.self.invariant.order.ascending (omega arith))

pub returns-in-Some : goal.returns-in-Some
returns-in-Some g c =
    let bs = c.self.inside.blocks.items in
    let at = c.home_of-at.result in
    let home = home_at c.self.inside.blocks.items c.deref.result.now c.args.number c.home_of-at.result c.self.invariant.order
    (c.deref.ensures.value ∙ c.self.invariant.firsts) c.home_of-at.ensures in
    rw (← c.self.view_is)
    (sym (from_home bs c.args.number at home c.index.result.now (omega arith) c.index.ensures
    ∙ ap (λ o. option_or o (slice_get (joined (drop (at + 1) bs)) 0)) (sym c.in-Some.ensures)))

pub returns-in-None : goal.returns-in-None
returns-in-None g c =
    let bs = c.self.inside.blocks.items in
    let at = c.home_of-at.result in
    let home = home_at c.self.inside.blocks.items c.deref.result.now c.args.number c.home_of-at.result c.self.invariant.order
    (c.deref.ensures.value ∙ c.self.invariant.firsts) c.home_of-at.ensures in
    let after = rw c.deref-in-None.ensures.value at c.first_after.ensures in
    rw (← c.self.view_is)
    (after ∙ sym (from_home bs c.args.number at home c.index.result.now (omega arith) c.index.ensures
    ∙ ap (λ o. option_or o (slice_get (joined (drop (at + 1) bs)) 0)) (sym c.in-None.ensures)))

pub returns-then-at-len : goal.returns-then-at-len
returns-then-at-len g c = grind (arith, common_steps)

pub index-requires-2 : goal.index-requires-2
index-requires-2 g c = grind (arith, common_steps)
