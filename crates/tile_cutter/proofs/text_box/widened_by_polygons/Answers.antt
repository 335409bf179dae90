use Rattle.edit_text.specs.Views.{lines_view, polygons_view}
use Rattle.tile_cutter.specs.Covered.{all_of}
use Rattle.tile_cutter.proofs.TextPasses.{bounds_item, bounds_over}
use Rattle.tile_cutter.proofs.text_box.widened_by_polygons.Goals as goal

pub loop-rings-preserved : goal.loop-rings-preserved
loop-rings-preserved c =
    bounds_item all_of (polygons_view c.loop-rings.rings-iterator) (polygons_view c.next.new.self) (lines_view c.in-Some.rings) c.loop-rings.bounds _ _
    c.in-Some.ensures.steps c.widened_by_lines-bounds.ensures c.loop-rings.invariant

pub returns : goal.returns
returns c = bounds_over all_of (polygons_view c.loop-rings.rings-iterator) c.loop-rings.bounds _ c.in-None.ensures.steps.0 c.loop-rings.invariant
