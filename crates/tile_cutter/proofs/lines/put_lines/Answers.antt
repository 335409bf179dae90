use Rattle.std.proofs.Common.{false, sym, ◌∙◌}
use Rattle.edit_text.specs.Views.{lines_view}
use Rattle.geometry_commands.specs.Shapes.{lines}
use Rattle.tile_cutter.specs.Cut.{lines_cut}
use Rattle.tile_cutter.proofs.PutShapes.{clear_cursor, none_are_put, lines_are_put}
use Rattle.tile_cutter.proofs.lines.put_lines.Goals as goal

pub put_all-requires-clause-cursor : goal.put_all-requires-clause-cursor
put_all-requires-clause-cursor c =
    let at = c.args.at in
    clear_cursor at.z at.x at.y c.args.out.now c.requires.zoom at.column at.row c.requires.clear

pub returns-then-is_empty : goal.returns-then-is_empty
returns-then-is_empty c =
    let at = c.args.at in
    none_are_put at.z at.x at.y c.args.out.now c.put_all.new.out c.requires.zoom at.column at.row c.requires.clear false lines
    (lines_cut at.z at.x at.y (lines_view c.args.lines)) c.in_ok-put_all.ensures.chains c.in_ok-put_all.ensures.drawable
    (sym c.is_empty.ensures ∙ c.if-is_empty.true)

pub returns : goal.returns
returns c =
    let at = c.args.at in
    lines_are_put at.z at.x at.y c.args.out.now c.put_all.new.out c.requires.zoom at.column at.row c.requires.clear
    (lines_cut at.z at.x at.y (lines_view c.args.lines)) c.in_ok-put_all.ensures.chains c.in_ok-put_all.ensures.drawable
    (sym c.is_empty.ensures ∙ c.if-is_empty.false)
