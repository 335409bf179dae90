use Rattle.std.proofs.Common.{length, ap, refl, arith}
use Rattle.edit_text.specs.Views.{points_view, lines_view}
use Rattle.edit_json.specs.Json.{points_json}
use Rattle.edit_json.proofs.WriteLemmas.{list_over, one_more}
use Rattle.edit_json.proofs.writer.lines_value.Goals as goal

pub loop-line-preserved : goal.loop-line-preserved
loop-line-preserved c = record {
  room = omega (arith, c.loop-line.invariant.room, ap length c.in-Some.ensures.steps, c.push_reserved.ensures.len, c.push_reserved.ensures.capacity);
  done = one_more points_json c.loop-line.list.items c.push_reserved.new.self.items c.in_ok-value.value (points_view c.in-Some.line)
      (lines_view c.next.new.self) (lines_view c.loop-line.line-iterator) (lines_view c.args.lines)
      c.in-Some.ensures.steps c.push_reserved.ensures.items c.in_ok-value.ensures c.loop-line.invariant.done;
}

pub push_reserved-requires : goal.push_reserved-requires
push_reserved-requires c = omega (arith, c.loop-line.invariant.room, ap length c.in-Some.ensures.steps)

pub loop-line-init : goal.loop-line-init
loop-line-init c = record {
  room = omega (
    arith,
    c.in_ok-list.ensures.len,
    c.in_ok-list.ensures.capacity,
    c.len.ensures,
    ap (λ it. length (lines_view it)) c.into_iter-line-iterator.ensures.into_iter_gives,
  );
  done = rw (c.in_ok-list.ensures.items, c.into_iter-line-iterator.ensures.into_iter_gives) refl;
}

pub returns : goal.returns
returns c =
    list_over points_json c.loop-line.list (lines_view c.loop-line.line-iterator) (lines_view c.args.lines) c.in-None.ensures.steps.0 c.loop-line.invariant.done
