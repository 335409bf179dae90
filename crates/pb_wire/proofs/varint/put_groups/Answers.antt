use Rattle.std.proofs.Common.{◌++◌, List, ℕ, arith, ap, sym, ◌∙◌}
use Rattle.pb_wire.proofs.Varints.{varint_last, varint_goes_on, varint_shorter, varint_some}
use Rattle.pb_wire.proofs.varint.put_groups.Goals as goal

pub push_reserved-requires : goal.push_reserved-requires
push_reserved-requires c = omega (arith, c.loop-rest.invariant.room, varint_some c.loop-rest.rest)

pub loop-rest-preserved : goal.loop-rest-preserved
loop-rest-preserved c =
    let before = c.loop-rest.invariant in
    let pushed = c.push_reserved.ensures in
    record {
      whole = rw pushed.items (varint_goes_on c.loop-rest.out.items c.loop-rest.rest _ (omega arith) c.loop-rest-test.true before.whole);
      room = omega (arith, before.room, pushed.len, pushed.capacity, varint_shorter c.loop-rest.rest (omega arith) c.loop-rest-test.true);
    }

pub push_reserved-requires-2 : goal.push_reserved-requires-2
push_reserved-requires-2 c = omega (arith, c.loop-rest.invariant.room, varint_some c.loop-rest.rest)

pub returns-clause-ok : goal.returns-clause-ok
returns-clause-ok c =
    let last = varint_last c.loop-rest.rest c.loop-rest-test.false in
    c.push_reserved-2.ensures.items ∙ ap (λ (bytes : List ℕ). c.loop-rest.out.items ++ bytes) (sym last) ∙ c.loop-rest.invariant.whole
