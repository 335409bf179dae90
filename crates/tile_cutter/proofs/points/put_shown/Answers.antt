use Rattle.std.proofs.Common.{None, sym, subst, ◌∙◌}
use Rattle.edit_text.specs.declared.lists.Points.{Points}
use Rattle.edit_text.specs.Views.{points_view}
use Rattle.tile_cutter.proofs.PutPoints.{PointsGo, points_go, point_put, point_left, points_bytes, points_at, points_of_tile}
use Rattle.tile_cutter.proofs.Spelled.{near_in_tile}
use Rattle.tile_cutter.proofs.points.put_shown.Goals as goal

pub loop-point-init : goal.loop-point-init
loop-point-init c =
    let at = c.args.at in
    let points = points_view c.args.points in
    subst (λ (s : Points). PointsGo at.z at.x at.y points (points_view s) c.args.out.now c.args.out.now None)
    (sym c.into_iter-point-iterator.ensures.into_iter_gives) (points_go at.z at.x at.y points c.args.out.now c.requires.cursor)

pub put_point-requires : goal.put_point-requires
put_point-requires c =
    let at = c.args.at in
    near_in_tile at.x at.y c.loop-point.out.at c.position-here.result c.loop-point.invariant.cursor c.position-here.ensures.of_tile

pub loop-point-preserved-in_ok-put_point : goal.loop-point-preserved-in_ok-put_point
loop-point-preserved-in_ok-put_point c =
    let at = c.args.at in
    let here = c.position-here in
    point_put at.z at.x at.y (points_view c.args.points) (points_view c.loop-point.point-iterator) (points_view c.next.new.self) c.in-Some.point here.result
    c.args.out.now c.loop-point.out c.loop-point.before c.loop-point.invariant c.in-Some.ensures.steps here.ensures.position here.ensures.of_tile
    c.put_point.new.self (sym c.is_shown.ensures ∙ c.if-is_shown.true) c.in_ok-put_point.ensures.bytes c.in_ok-put_point.ensures.at

pub loop-point-preserved : goal.loop-point-preserved
loop-point-preserved c =
    let at = c.args.at in
    let here = c.position-here in
    point_left at.z at.x at.y (points_view c.args.points) (points_view c.loop-point.point-iterator) (points_view c.next.new.self) c.in-Some.point here.result
    c.args.out.now c.loop-point.out c.loop-point.before c.loop-point.invariant c.in-Some.ensures.steps here.ensures.position here.ensures.of_tile
    (sym c.is_shown.ensures ∙ c.if-is_shown.false)

pub returns-clause-bytes : goal.returns-clause-bytes
returns-clause-bytes c =
    let at = c.args.at in
    points_bytes at.z at.x at.y (points_view c.args.points) (points_view c.loop-point.point-iterator) c.args.out.now c.loop-point.out c.loop-point.before
    c.loop-point.invariant c.in-None.ensures.steps.0

pub returns-clause-at : goal.returns-clause-at
returns-clause-at c =
    let at = c.args.at in
    points_at at.z at.x at.y (points_view c.args.points) (points_view c.loop-point.point-iterator) c.args.out.now c.loop-point.out c.loop-point.before
    c.loop-point.invariant c.in-None.ensures.steps.0

pub returns-clause-of_tile : goal.returns-clause-of_tile
returns-clause-of_tile c =
    let at = c.args.at in
    points_of_tile at.z at.x at.y (points_view c.args.points) (points_view c.loop-point.point-iterator) c.args.out.now c.loop-point.out c.loop-point.before
    c.loop-point.invariant c.in-None.ensures.steps.0
