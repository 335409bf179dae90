use Rattle.std.proofs.Common.{true, refl}
use Rattle.feature_model.specs.Limits.{RingsFit}
use Rattle.edit_text.specs.Views.{lines_view, polygons_view}
use Rattle.tile_cutter.specs.Cut.{polygon_cut, polygons_cut}
use Rattle.tile_cutter.proofs.Each.{first_keeps, rest_keeps}
use Rattle.tile_cutter.proofs.PutLists.{lists_begin, lists_item, lists_over}
use Rattle.tile_cutter.proofs.rings.put_all.Goals as goal

pub loop-polygon-init : goal.loop-polygon-init
unfolding polygons_cut
loop-polygon-init c =
    let at = c.args.at in
    let polygons = polygons_view c.args.polygons in
    record {
      rings =
          rw c.into_iter-polygon-iterator.ensures.into_iter_gives
          (lists_begin true at.x at.y (polygon_cut at.z at.x at.y) polygons (polygons_cut at.z at.x at.y polygons) c.args.out.now refl c.requires.cursor);
      limits = rw c.into_iter-polygon-iterator.ensures.into_iter_gives c.requires.limits;
    }

pub put_polygon-requires-clause-limits : goal.put_polygon-requires-clause-limits
put_polygon-requires-clause-limits c =
    first_keeps RingsFit (polygons_view c.loop-polygon.polygon-iterator) _ (lines_view c.in-Some.polygon) c.in-Some.ensures.steps
    c.loop-polygon.invariant.limits

pub loop-polygon-preserved : goal.loop-polygon-preserved
loop-polygon-preserved c =
    let at = c.args.at in
    let left = polygons_view c.loop-polygon.polygon-iterator in
    let rest = polygons_view c.next.new.self in
    let polygon = lines_view c.in-Some.polygon in
    let first = c.in-Some.ensures.steps in
    record {
      rings =
          lists_item true at.x at.y (polygon_cut at.z at.x at.y) left rest polygon (polygons_cut at.z at.x at.y (polygons_view c.args.polygons))
          c.args.out.now c.loop-polygon.out c.put_polygon.new.out c.loop-polygon.invariant.rings first c.in_ok-put_polygon.ensures.rings
          c.in_ok-put_polygon.ensures.drawable;
      limits = rest_keeps RingsFit left rest polygon first c.loop-polygon.invariant.limits;
    }

pub returns-clause-rings : goal.returns-clause-rings
returns-clause-rings c =
    let at = c.args.at in
    (lists_over true at.x at.y (polygon_cut at.z at.x at.y) (polygons_view c.loop-polygon.polygon-iterator)
    (polygons_cut at.z at.x at.y (polygons_view c.args.polygons)) c.args.out.now c.loop-polygon.out c.loop-polygon.invariant.rings
    c.in-None.ensures.steps.0).0

pub returns-clause-drawable : goal.returns-clause-drawable
returns-clause-drawable c =
    let at = c.args.at in
    (lists_over true at.x at.y (polygon_cut at.z at.x at.y) (polygons_view c.loop-polygon.polygon-iterator)
    (polygons_cut at.z at.x at.y (polygons_view c.args.polygons)) c.args.out.now c.loop-polygon.out c.loop-polygon.invariant.rings
    c.in-None.ensures.steps.0).1
