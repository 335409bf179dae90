use Rattle.std.proofs.Common.{None, refl, sym, subst, arith}
use Rattle.edit_text.specs.declared.lists.Points.{Points}
use Rattle.edit_text.specs.Views.{points_view}
use Rattle.tile_cutter.proofs.PutPoints.{CountGoes, count_begins, count_item, count_over}
use Rattle.tile_cutter.proofs.points.count_shown.Goals as goal

pub loop-point-init : goal.loop-point-init
loop-point-init c =
    let at = c.args.at in
    let points = points_view c.args.points in
    subst (λ (s : Points). CountGoes at.z at.x at.y points (points_view s) 0 None) (sym c.into_iter-point-iterator.ensures.into_iter_gives)
    (count_begins at.z at.x at.y points)

pub overflow_add-count : goal.overflow_add-count
overflow_add-count c = let few = c.loop-point.invariant.few in omega (arith, few, c.requires.limits.1)

pub loop-point-preserved-then-is_shown : goal.loop-point-preserved-then-is_shown
loop-point-preserved-then-is_shown c =
    let at = c.args.at in
    let here = c.position-here in
    count_item at.z at.x at.y (points_view c.args.points) (points_view c.loop-point.point-iterator) (points_view c.next.new.self) c.in-Some.point
    c.loop-point.count _ c.loop-point.before here.result c.loop-point.invariant c.in-Some.ensures.steps here.ensures.position here.ensures.of_tile
    (rw (sym c.is_shown.ensures, c.if-is_shown.true) (omega arith))

pub loop-point-preserved : goal.loop-point-preserved
loop-point-preserved c =
    let at = c.args.at in
    let here = c.position-here in
    count_item at.z at.x at.y (points_view c.args.points) (points_view c.loop-point.point-iterator) (points_view c.next.new.self) c.in-Some.point
    c.loop-point.count _ c.loop-point.before here.result c.loop-point.invariant c.in-Some.ensures.steps here.ensures.position here.ensures.of_tile
    (rw (sym c.is_shown.ensures, c.if-is_shown.false) refl)

pub returns : goal.returns
returns c =
    let at = c.args.at in
    count_over at.z at.x at.y (points_view c.args.points) (points_view c.loop-point.point-iterator) c.loop-point.count c.loop-point.before
    c.loop-point.invariant c.in-None.ensures.steps.0
