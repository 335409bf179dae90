use Rattle.std.proofs.Common.{ap, sym, ◌∙◌}
use Rattle.tile_cutter.specs.Widened.{bounds_after}
use Rattle.tile_cutter.proofs.text_box.widened_by_points.Goals as goal

pub loop-point-preserved : goal.loop-point-preserved
loop-point-preserved c = rw c.widened.ensures (ap (bounds_after c.loop-point.bounds) (sym c.in-Some.ensures.steps) ∙ c.loop-point.invariant)

pub returns : goal.returns
returns c = ap (bounds_after c.loop-point.bounds) (sym c.in-None.ensures.steps.0) ∙ c.loop-point.invariant
