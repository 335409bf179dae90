use Rattle.std.proofs.Common.{None, ap, ◌∙◌}
use Rattle.tile_cutter.specs.Covered.{all_of}
use Rattle.tile_cutter.specs.Widened.{bounds_after}
use Rattle.tile_cutter.specs.Passes.{lists_of}
use Rattle.tile_cutter.proofs.Boxes.{bounds_next, bounds_end}
use Rattle.tile_cutter.proofs.Each.{each_begins}
use Rattle.tile_cutter.proofs.reach.bounds_of_polygons.Goals as goal

pub loop-rings-init : goal.loop-rings-init
loop-rings-init c = ap (bounds_after None) (each_begins (λ p. lists_of p.items) all_of c.args.polygons.now)

pub loop-rings-preserved : goal.loop-rings-preserved
loop-rings-preserved c =
    bounds_next (λ p. all_of (lists_of p.items))
    c.args.polygons.now c.loop-rings.rings-index c.rings-item.result c.loop-rings.bounds c.widened_by_lists-bounds.result _ c.loop-rings-test.true
    c.rings-item.is
    (c.widened_by_lists-bounds.ensures ∙ ap (λ p. bounds_after c.loop-rings.bounds (all_of (lists_of p))) c.deref.ensures.value) c.loop-rings.invariant

pub returns : goal.returns
returns c =
    bounds_end (λ p. all_of (lists_of p.items))
    c.args.polygons.now c.loop-rings.rings-index c.loop-rings.bounds _ c.loop-rings-test.false c.loop-rings.invariant
