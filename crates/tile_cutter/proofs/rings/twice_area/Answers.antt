use Rattle.std.proofs.Common.{◌≡◌, suc, ◌-◌, ◌<◌, ◌^◌, length, ap, ◌∙◌, arith}
use Rattle.std.proofs.lemmas.Int.{ints}
use Rattle.edit_text.specs.Views.{points_view}
use Rattle.tile_cutter.proofs.Areas.{area_begins, area_item, area_over, area_of_none, sum_fits, sum_is}
use Rattle.tile_cutter.proofs.Kept.{small_of_tile}
use Rattle.tile_cutter.proofs.rings.twice_area.Goals as goal

pub returns-in_default : goal.returns-in_default
returns-in_default c =
    area_of_none c.args.at.z c.args.at.x c.args.at.y (points_view c.args.points) (ap length c.in_default.ensures.steps.0)

pub loop-point-init : goal.loop-point-init
loop-point-init c =
    let at = c.args.at in
    let first = c.in-Some.ensures.steps in
    let long = ap length first in
    rw c.into_iter-point-iterator.ensures.into_iter_gives record {
      area = area_begins at.z at.x at.y (points_view c.args.points) c.in-Some.first (points_view c.next.new.self) c.position-start.result
          first c.position-start.ensures.position;
      left = omega (arith, long);
      low = omega (arith, ints);
      high = omega (arith, ints);
      small = small_of_tile at.x at.y (omega arith) (omega arith) c.position-start.result c.position-start.ensures.of_tile;
    }

pub overflow_add-sum : goal.overflow_add-sum
overflow_add-sum c =
    let i = length (points_view c.args.points) - length (points_view c.loop-point.point-iterator) in
    let few : i < 2 ^ 29 = omega (arith, c.requires.few) in
    let keeps = c.loop-point.invariant in
    sum_fits i _ c.cross-sum.result few keeps.low keeps.high c.cross-sum.ensures.within

pub overflow_add-result : goal.overflow_add-result
overflow_add-result c =
    let i = length (points_view c.args.points) - length (points_view c.loop-point.point-iterator) in
    let few : i < 2 ^ 29 = omega (arith, c.requires.few) in
    let keeps = c.loop-point.invariant in
    sum_fits i _ c.cross.result few keeps.low keeps.high c.cross.ensures.within

pub loop-point-preserved : goal.loop-point-preserved
loop-point-preserved c =
    let at = c.args.at in
    let left = points_view c.loop-point.point-iterator in
    let rest = points_view c.next-in-loop-point.new.self in
    let i = length (points_view c.args.points) - length left in
    let few : i < 2 ^ 29 = omega (arith, c.requires.few) in
    let keeps = c.loop-point.invariant in
    let first = c.in-Some-point.ensures.steps in
    let long : length left ≡ suc (length rest) = ap length first in
    let sum = sum_is i _ c.cross-sum.result few keeps.low keeps.high c.cross-sum.ensures.within in
    record {
      area =
          rw sum (area_item at.z at.x at.y left _ c.cross-sum.result _ c.loop-point.from c.position-start.result rest c.in-Some-point.point
          c.position-to.result first c.position-to.ensures.position c.cross-sum.ensures.cross keeps.area);
      left = omega (arith, long, keeps.left);
      low = rw sum (omega (arith, ints, long, keeps.left, keeps.low, c.cross-sum.ensures.within.low));
      high = rw sum (omega (arith, ints, long, keeps.left, keeps.high, c.cross-sum.ensures.within.high));
      small = small_of_tile at.x at.y (omega arith) (omega arith) c.position-to.result c.position-to.ensures.of_tile;
    }

pub returns : goal.returns
returns c =
    let at = c.args.at in
    let left = points_view c.loop-point.point-iterator in
    let i = length (points_view c.args.points) - length left in
    let few : i < 2 ^ 29 = omega (arith, c.requires.few) in
    let keeps = c.loop-point.invariant in
    sum_is i _ c.cross.result few keeps.low keeps.high c.cross.ensures.within
    ∙ area_over at.z at.x at.y left _ c.cross.result _ c.loop-point.from c.position-start.result c.in-None.ensures.steps.0 c.cross.ensures.cross keeps.area
