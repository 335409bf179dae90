use Rattle.std.proofs.Common.{ap, ◌∙◌}
use Rattle.tile_cutter.specs.Widened.{bounds_after}
use Rattle.tile_cutter.proofs.Boxes.{bounds_next, bounds_end}
use Rattle.tile_cutter.proofs.Each.{each_begins}
use Rattle.tile_cutter.proofs.reach.widened_by_lists.Goals as goal

pub loop-list-init : goal.loop-list-init
loop-list-init c = ap (bounds_after c.args.bounds) (each_begins (λ v. v.items) (λ l. l) c.args.lists.now)

pub loop-list-preserved : goal.loop-list-preserved
loop-list-preserved c =
    bounds_next (λ v. v.items)
    c.args.lists.now c.loop-list.list-index c.list-item.result c.loop-list.bounds c.widened_by_list-bounds.result _ c.loop-list-test.true c.list-item.is
    (c.widened_by_list-bounds.ensures ∙ ap (bounds_after c.loop-list.bounds) c.deref.ensures.value) c.loop-list.invariant

pub returns : goal.returns
returns c = bounds_end (λ v. v.items) c.args.lists.now c.loop-list.list-index c.loop-list.bounds _ c.loop-list-test.false c.loop-list.invariant
