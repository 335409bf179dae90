use Rattle.std.proofs.Common.{arith}
use Rattle.std.proofs.lemmas.List.{length-append}
use Rattle.std.proofs.lemmas.Result.{err_from_is_err_and}
use Rattle.reader.proofs.Steps.{repeated_on, repeated_stop, repeated_done}
use Rattle.pm_directory.specs.Reading.{one_more}
use Rattle.pm_directory.proofs.Steps.{one_on, one_stop}
use Rattle.pm_directory.proofs.numbers.numbers.Goals as goal

pub returns-in_err-number-clause-exact : goal.returns-in_err-number-clause-exact
returns-in_err-number-clause-exact c =
    let p = err_from_is_err_and c.from_residual-in_err-number.result c.from_residual-in_err-number.ensures.1 in
    rw (p.1, p.2) (λ _. repeated_stop one_more c.args.count c.loop-i.i
    (c.loop-i.numbers.items, c.loop-i.rest.now) c.in_err-number.field-0.0 _ c.loop-i-test.true
    c.loop-i.invariant.read (one_stop c.loop-i.numbers.items c.loop-i.rest.now c.in_err-number.field-0.0 c.in_err-number.ensures.exact))

pub loop-i-preserved : goal.loop-i-preserved
loop-i-preserved c = record {
  count = rw c.push_reserved.ensures.items (simp length-append (omega (arith, c.loop-i.invariant.count)));
  read = rw c.push_reserved.ensures.items (repeated_on one_more c.args.count c.loop-i.i (c.loop-i.numbers.items, c.loop-i.rest.now) _ _ c.loop-i-test.true
      c.loop-i.invariant.read (one_on c.loop-i.numbers.items c.loop-i.rest.now c.in_ok-number.after.now c.in_ok-number.number c.in_ok-number.ensures.exact));
  long = omega (arith, c.loop-i.invariant.long, c.push_reserved.ensures.len);
  room = omega (arith, c.loop-i.invariant.room, c.push_reserved.ensures.capacity);
}

pub returns-clause-exact : goal.returns-clause-exact
returns-clause-exact c =
    repeated_done one_more c.args.count c.loop-i.i (c.loop-i.numbers.items, c.loop-i.rest.now) _ c.loop-i-test.false c.loop-i.invariant.read
