use Rattle.std.proofs.Common.{length, ap, refl, arith}
use Rattle.edit_text.specs.Views.{points_view}
use Rattle.edit_json.specs.Json.{point_json}
use Rattle.edit_json.proofs.WriteLemmas.{list_over, one_more}
use Rattle.edit_json.proofs.writer.points_value.Goals as goal

pub loop-point-preserved : goal.loop-point-preserved
loop-point-preserved c = record {
  room = omega (arith, c.loop-point.invariant.room, ap length c.in-Some.ensures.steps, c.push_reserved.ensures.len, c.push_reserved.ensures.capacity);
  done = one_more point_json c.loop-point.list.items c.push_reserved.new.self.items c.in_ok-value.value c.in-Some.point (points_view c.next.new.self)
      (points_view c.loop-point.point-iterator) (points_view c.args.points) c.in-Some.ensures.steps c.push_reserved.ensures.items c.in_ok-value.ensures
      c.loop-point.invariant.done;
}

pub push_reserved-requires : goal.push_reserved-requires
push_reserved-requires c = omega (arith, c.loop-point.invariant.room, ap length c.in-Some.ensures.steps)

pub loop-point-init : goal.loop-point-init
loop-point-init c = record {
  room = omega (
    arith,
    c.in_ok-list.ensures.len,
    c.in_ok-list.ensures.capacity,
    c.len.ensures,
    ap (λ it. length (points_view it)) c.into_iter-point-iterator.ensures.into_iter_gives,
  );
  done = rw (c.in_ok-list.ensures.items, c.into_iter-point-iterator.ensures.into_iter_gives) refl;
}

pub returns : goal.returns
returns c =
    list_over point_json c.loop-point.list (points_view c.loop-point.point-iterator) (points_view c.args.points)
    c.in-None.ensures.steps.0 c.loop-point.invariant.done
