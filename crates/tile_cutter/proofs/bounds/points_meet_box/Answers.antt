use Rattle.std.proofs.Common.{sym, ◌∙◌, ap, true≢false}
use Rattle.edit_text.specs.Views.{points_view}
use Rattle.tile_cutter.specs.Widened.{range_of}
use Rattle.tile_cutter.proofs.Outside.{line_outside}
use Rattle.tile_cutter.proofs.RingBoxes.{ring_says}
use Rattle.tile_cutter.proofs.bounds.points_meet_box.Goals as goal

pub returns-clause-line : goal.returns-clause-line
returns-clause-line c = λ none.
    let at = c.args.at in
    line_outside at.z at.x at.y (points_view c.args.points) c.range_of.result
    (c.range_of.ensures ∙ ap (λ bounds. range_of bounds at.z) c.widened_by_points.ensures) at.column at.row
    (λ inside. true≢false (sym (c.has_tile.ensures.1 inside) ∙ none))

pub returns-clause-ring : goal.returns-clause-ring
returns-clause-ring c =
    let at = c.args.at in
    ring_says at.z at.x at.y (points_view c.args.points) c.widened_by_points.result c.range_of.result c.has_tile.result at.column at.row
    c.widened_by_points.ensures c.range_of.ensures c.has_tile.ensures
