use Rattle.std.proofs.Common.{arith}
use Rattle.std.proofs.lemmas.List.{length-drop}
use Rattle.std.proofs.lemmas.Result.{err_from_is_err_and}
use Rattle.pb_wire.proofs.Message.{back}
use Rattle.mvt_layer.proofs.Folds.{packed_on, packed_range, packed_broken, packed_done}
use Rattle.mvt_layer.proofs.passes.add_packed.Goals as goal

pub returns-in_err-n : goal.returns-in_err-n
returns-in_err-n c =
    let p = err_from_is_err_and c.from_residual-in_err-n.result c.from_residual-in_err-n.ensures.1 in
    let broken = packed_broken c.loop-rest.numbers.items c.loop-rest.rest.now c.in_err-n.field-0.0 _
    c.loop-rest-test.true c.loop-rest.invariant.read c.in_err-n.ensures.exact in
    rw (p.1, p.2) (λ _. broken)

pub returns-in_err-add_reserved : goal.returns-in_err-add_reserved
returns-in_err-add_reserved c =
    let p = err_from_is_err_and c.from_residual-in_err-add_reserved.result c.from_residual-in_err-add_reserved.ensures.1 in
    let d = c.in_err-add_reserved.field-0.0 in
    rw (p.1, p.2) (λ _. packed_range c.loop-rest.numbers.items c.loop-rest.rest.now c.in_ok-n.n c.in_ok-n.len _ c.loop-rest-test.true c.in_ok-n.ensures.exact
    c.loop-rest.invariant.read d c.in_err-add_reserved.ensures.exact)

pub loop-rest-preserved : goal.loop-rest-preserved
loop-rest-preserved c = record {
  read = rw back (packed_on c.loop-rest.numbers.items c.add_reserved.new.numbers.items c.loop-rest.rest.now c.in_ok-n.n c.in_ok-n.len _
      c.loop-rest-test.true c.in_ok-n.ensures.exact c.in_ok-add_reserved.ensures.exact c.loop-rest.invariant.read);
  room = rw back (omega (
    arith,
    c.loop-rest.invariant.room,
    c.in_ok-add_reserved.ensures.len,
    c.add_reserved.ensures.capacity,
    length-drop c.in_ok-n.len c.loop-rest.rest.now,
    c.in_ok-n.ensures.within,
  ));
}

pub returns : goal.returns
returns c = packed_done c.loop-rest.numbers.items c.loop-rest.rest.now _ c.loop-rest-test.false c.loop-rest.invariant.read
