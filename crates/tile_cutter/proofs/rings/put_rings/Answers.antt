use Rattle.std.proofs.Common.{true, sym, ◌∙◌}
use Rattle.edit_text.specs.Views.{polygons_view}
use Rattle.geometry_commands.specs.Shapes.{rings}
use Rattle.tile_cutter.specs.Cut.{polygons_cut}
use Rattle.tile_cutter.proofs.PutShapes.{clear_cursor, none_are_put, rings_are_put}
use Rattle.tile_cutter.proofs.rings.put_rings.Goals as goal

pub put_all-requires-clause-cursor : goal.put_all-requires-clause-cursor
put_all-requires-clause-cursor c =
    let at = c.args.at in
    clear_cursor at.z at.x at.y c.args.out.now c.requires.zoom at.column at.row c.requires.clear

pub returns-then-is_empty : goal.returns-then-is_empty
returns-then-is_empty c =
    let at = c.args.at in
    none_are_put at.z at.x at.y c.args.out.now c.put_all.new.out c.requires.zoom at.column at.row c.requires.clear true rings
    (polygons_cut at.z at.x at.y (polygons_view c.args.polygons)) c.in_ok-put_all.ensures.rings c.in_ok-put_all.ensures.drawable
    (sym c.is_empty.ensures ∙ c.if-is_empty.true)

pub returns : goal.returns
returns c =
    let at = c.args.at in
    rings_are_put at.z at.x at.y c.args.out.now c.put_all.new.out c.requires.zoom at.column at.row c.requires.clear
    (polygons_cut at.z at.x at.y (polygons_view c.args.polygons)) c.in_ok-put_all.ensures.rings c.in_ok-put_all.ensures.drawable
    (sym c.is_empty.ensures ∙ c.if-is_empty.false)
