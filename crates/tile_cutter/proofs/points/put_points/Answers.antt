use Rattle.std.proofs.Common.{◌^◌, ◌<◌, length, sym, subst, arith}
use Rattle.edit_text.specs.Views.{points_view}
use Rattle.tile_cutter.specs.Cut.{points_cut}
use Rattle.tile_cutter.specs.Range.{IsOfTile}
use Rattle.tile_cutter.proofs.PutShapes.{clear_cursor, points_are_put}
use Rattle.tile_cutter.proofs.Spelled.{length_points_cut}
use Rattle.tile_cutter.proofs.points.put_points.Goals as goal

pub begin_points-requires : goal.begin_points-requires
begin_points-requires c =
    let at = c.args.at in
    omega (arith, c.count_shown-count.ensures, length_points_cut at.z at.x at.y (points_view c.args.points), c.requires.limits.1)

pub put_shown-requires-clause-cursor : goal.put_shown-requires-clause-cursor
put_shown-requires-clause-cursor c =
    let at = c.args.at in
    subst (IsOfTile at.x at.y) (sym c.in_ok-begin_points.ensures.at)
    (clear_cursor at.z at.x at.y c.args.out.now c.requires.zoom at.column at.row c.requires.clear)

pub returns : goal.returns
returns c =
    let at = c.args.at in
    let ps = points_cut at.z at.x at.y (points_view c.args.points) in
    let few : length ps < 2 ^ 29 = omega (arith, length_points_cut at.z at.x at.y (points_view c.args.points), c.requires.limits.1) in
    points_are_put at.z at.x at.y c.args.out.now c.put_shown.new.out c.requires.zoom at.column at.row c.requires.clear ps c.count_shown-count.result
    c.begin_points.new.self (omega (arith, c.if-count-eq0.false)) c.count_shown-count.ensures few c.in_ok-begin_points.ensures.bytes
    c.in_ok-begin_points.ensures.at c.in_ok-put_shown.ensures.bytes c.in_ok-put_shown.ensures.at c.in_ok-put_shown.ensures.of_tile
