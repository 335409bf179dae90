use Rattle.tile_cutter.proofs.WorldBox.{apart, tile_box_is}
use Rattle.tile_cutter.proofs.world_box.tile_box.Goals as goal

pub returns-clause-tile_box : goal.returns-clause-tile_box
returns-clause-tile_box c =
    tile_box_is c.args.at.z c.args.at.x c.args.at.y _ _ _ _ c.first_shown-left.ensures c.first_shown-top.ensures c.last_shown-right.ensures
    c.last_shown-bottom.ensures

pub returns-clause-nothing_apart : goal.returns-clause-nothing_apart
returns-clause-nothing_apart c = λ f lies none.
    apart f c.args.at.z c.args.at.x c.args.at.y _
    (tile_box_is c.args.at.z c.args.at.x c.args.at.y _ _ _ _ c.first_shown-left.ensures c.first_shown-top.ensures c.last_shown-right.ensures
    c.last_shown-bottom.ensures)
    c.args.at.column c.args.at.row lies none
