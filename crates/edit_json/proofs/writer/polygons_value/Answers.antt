use Rattle.std.proofs.Common.{length, ap, refl, arith}
use Rattle.edit_text.specs.Views.{lines_view, polygons_view}
use Rattle.edit_json.specs.Json.{lines_json}
use Rattle.edit_json.proofs.WriteLemmas.{list_over, one_more}
use Rattle.edit_json.proofs.writer.polygons_value.Goals as goal

pub loop-rings-preserved : goal.loop-rings-preserved
loop-rings-preserved c = record {
  room = omega (arith, c.loop-rings.invariant.room, ap length c.in-Some.ensures.steps, c.push_reserved.ensures.len, c.push_reserved.ensures.capacity);
  done = one_more lines_json c.loop-rings.list.items c.push_reserved.new.self.items c.in_ok-value.value (lines_view c.in-Some.rings)
      (polygons_view c.next.new.self) (polygons_view c.loop-rings.rings-iterator) (polygons_view c.args.polygons)
      c.in-Some.ensures.steps c.push_reserved.ensures.items c.in_ok-value.ensures c.loop-rings.invariant.done;
}

pub push_reserved-requires : goal.push_reserved-requires
push_reserved-requires c = omega (arith, c.loop-rings.invariant.room, ap length c.in-Some.ensures.steps)

pub loop-rings-init : goal.loop-rings-init
loop-rings-init c = record {
  room = omega (
    arith,
    c.in_ok-list.ensures.len,
    c.in_ok-list.ensures.capacity,
    c.len.ensures,
    ap (λ it. length (polygons_view it)) c.into_iter-rings-iterator.ensures.into_iter_gives,
  );
  done = rw (c.in_ok-list.ensures.items, c.into_iter-rings-iterator.ensures.into_iter_gives) refl;
}

pub returns : goal.returns
returns c =
    list_over lines_json c.loop-rings.list (polygons_view c.loop-rings.rings-iterator) (polygons_view c.args.polygons)
    c.in-None.ensures.steps.0 c.loop-rings.invariant.done
