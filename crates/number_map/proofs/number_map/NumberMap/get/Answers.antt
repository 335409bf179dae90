use Rattle.std.proofs.Common.{sym, ap, subst, ◌∙◌, arith}
use Rattle.std.specs.Ordering.{nat_cmp}
use Rattle.std.specs.BTreeMap.{is_at}
use Rattle.std.specs.Map.{lookup}
use Rattle.number_map.specs.Blocks.{Ascends}
use Rattle.number_map.proofs.Firsts.{firsts_ascend}
use Rattle.number_map.proofs.Home.{ascends_at, home_at, lookup_home}
use Rattle.number_map.proofs.number_map.NumberMap.get.Goals as goal

pub home_of-at-requires : goal.home_of-at-requires
home_of-at-requires g c =
    firsts_ascend c.self.inside.blocks.items c.deref.result.now c.self.invariant.order (c.deref.ensures.value ∙ c.self.invariant.firsts)

pub get-requires : goal.get-requires
get-requires g c =
    subst Ascends (sym c.index.ensures)
    (ascends_at c.self.inside.blocks.items c.home_of-at.result c.index.result.now c.self.invariant.order.ascending (omega arith))

pub returns : goal.returns
returns g c =
    let home = home_at c.self.inside.blocks.items c.deref.result.now c.args.number c.home_of-at.result c.self.invariant.order
    (c.deref.ensures.value ∙ c.self.invariant.firsts) c.home_of-at.ensures in
    rw (← c.self.view_is)
    (c.get.ensures ∙ ap (lookup (is_at (nat_cmp c.args.number))) c.index.ensures
    ∙ sym (lookup_home c.self.inside.blocks.items c.args.number c.home_of-at.result home c.index.result.now (omega arith)))
