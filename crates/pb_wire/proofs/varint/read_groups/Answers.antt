use Rattle.std.proofs.Common.{◌<◌, arith, sym, ◌∙◌}
use Rattle.pb_wire.proofs.ReadVarint.{read_begins, read_cut, read_more, read_last, read_overlong, value_room, more_room, shift_room, value_next}
use Rattle.pb_wire.proofs.varint.read_groups.Goals as goal

pub loop-i-init : goal.loop-i-init
loop-i-init c = record { whole = read_begins c.args.bytes.now; below = omega arith; room = omega arith }

pub returns-then-byte-gt1-clause-exact : goal.returns-then-byte-gt1-clause-exact
returns-then-byte-gt1-clause-exact c =
    (sym (read_overlong c.args.bytes.now c.loop-i.value c.loop-i.i c.from-byte.result c.loop-i-test.true c.from-byte.ensures c.if-i-eq9.true c.if-byte-gt1.true)
    ∙ c.loop-i.invariant.whole)

pub overflow_mul-value : goal.overflow_mul-value
overflow_mul-value c = omega arith

pub overflow_shl-value : goal.overflow_shl-value
overflow_shl-value c = omega arith

pub overflow_add-value : goal.overflow_add-value
overflow_add-value c =
    let before = c.loop-i.invariant in
    rw (shift_room c.loop-i.value c.loop-i.i c.from-byte.result before.room before.below c.else-i-eq9.either)
    (omega (arith, value_room c.loop-i.value c.loop-i.i c.from-byte.result before.room before.below c.else-i-eq9.either))

pub returns-then-byte-lt128-clause-exact : goal.returns-then-byte-lt128-clause-exact
returns-then-byte-lt128-clause-exact c =
    let before = c.loop-i.invariant in
    rw (shift_room c.loop-i.value c.loop-i.i c.from-byte.result before.room before.below c.else-i-eq9.either)
    ((sym (read_last c.args.bytes.now c.loop-i.value c.loop-i.i c.from-byte.result before.room c.loop-i-test.true c.from-byte.ensures c.if-byte-lt128.true
    c.else-i-eq9.either) ∙ before.whole))

pub loop-i-preserved : goal.loop-i-preserved
loop-i-preserved c =
    let before = c.loop-i.invariant in
    let room : c.loop-i.i < 9 = more_room c.loop-i.i c.from-byte.result before.room c.if-byte-lt128.false c.else-i-eq9.either in
    rw (shift_room c.loop-i.value c.loop-i.i c.from-byte.result before.room before.below c.else-i-eq9.either) record {
      whole = sym (read_more c.args.bytes.now c.loop-i.value c.loop-i.i c.from-byte.result room c.loop-i-test.true c.from-byte.ensures c.if-byte-lt128.false)
          ∙ before.whole;
      below = value_next c.loop-i.value c.loop-i.i c.from-byte.result before.below;
      room = omega arith;
    }

pub returns-clause-exact : goal.returns-clause-exact
returns-clause-exact c = (sym (read_cut c.args.bytes.now c.loop-i.value c.loop-i.i (omega arith)) ∙ c.loop-i.invariant.whole)
