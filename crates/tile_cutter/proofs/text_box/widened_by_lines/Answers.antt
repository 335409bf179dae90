use Rattle.edit_text.specs.Views.{points_view, lines_view}
use Rattle.tile_cutter.proofs.TextPasses.{bounds_item, bounds_over}
use Rattle.tile_cutter.proofs.text_box.widened_by_lines.Goals as goal

pub loop-line-preserved : goal.loop-line-preserved
loop-line-preserved c =
    bounds_item (λ l. l) (lines_view c.loop-line.line-iterator) (lines_view c.next.new.self) (points_view c.in-Some.line) c.loop-line.bounds _ _
    c.in-Some.ensures.steps c.widened_by_points-bounds.ensures c.loop-line.invariant

pub returns : goal.returns
returns c = bounds_over (λ l. l) (lines_view c.loop-line.line-iterator) c.loop-line.bounds _ c.in-None.ensures.steps.0 c.loop-line.invariant
