use Rattle.std.proofs.Common.{Err, refl, ap, arith, rules}
use Rattle.std.proofs.lemmas.Result.{err_from_is_err_and}
use Rattle.reader.proofs.Steps.{repeated_on, repeated_stop, repeated_done}
use Rattle.geometry_commands.specs.Decoding.{walk_step}
use Rattle.geometry_commands.proofs.Stepwise.{walk_step_on, walk_step_stop}
use Rattle.geometry_commands.proofs.decoding.walk.Goals as goal

pub returns-in_err-to-clause-exact : goal.returns-in_err-to-clause-exact
returns-in_err-to-clause-exact c =
    let p = err_from_is_err_and c.from_residual-in_err-to.result c.from_residual-in_err-to.ensures.1 in
    let stopped = walk_step_stop c.loop-i.points.items c.loop-i.at c.loop-i.rest.now c.in_err-to.field-0.0 c.in_err-to.ensures.exact in
    rw (p.1, p.2) (λ _. repeated_stop walk_step c.args.count c.loop-i.i (c.loop-i.points.items, c.loop-i.at, c.loop-i.rest.now) _ _
    c.loop-i-test.true c.loop-i.invariant.spelled stopped)

pub loop-i-preserved : goal.loop-i-preserved
loop-i-preserved c =
    let stepped = walk_step_on c.loop-i.points.items c.loop-i.at c.in_ok-to.to c.loop-i.rest.now c.in_ok-to.after.now c.in_ok-to.ensures.exact in
    record {
      spelled = rw c.push_reserved.ensures.items (repeated_on walk_step c.args.count c.loop-i.i (c.loop-i.points.items, c.loop-i.at, c.loop-i.rest.now) _ _
          c.loop-i-test.true c.loop-i.invariant.spelled stepped);
      long = omega (arith, c.loop-i.invariant.long, c.push_reserved.ensures.len);
      room = omega (arith, c.loop-i.invariant.room, c.push_reserved.ensures.capacity);
      spare = omega (arith, c.loop-i.invariant.spare, c.push_reserved.ensures.capacity);
      left = omega (arith, c.loop-i.invariant.left, c.in_ok-to.ensures.behind);
    }

pub returns-clause-exact : goal.returns-clause-exact
returns-clause-exact c = repeated_done walk_step c.args.count c.loop-i.i (c.loop-i.points.items, c.loop-i.at, c.loop-i.rest.now) _
    c.loop-i-test.false c.loop-i.invariant.spelled

pub returns-in_err-reserve-clause-exact : goal.returns-in_err-reserve-clause-exact
returns-in_err-reserve-clause-exact c =
    let p = err_from_is_err_and c.from_residual.result c.from_residual.ensures.1 in
    rw (p.1, p.2) (λ other. absurd (other refl))

pub returns-in_err-reserve-clause-behind : goal.returns-in_err-reserve-clause-behind
returns-in_err-reserve-clause-behind c =
    let p = err_from_is_err_and c.from_residual.result c.from_residual.ensures.1 in
    rw p.1 tt

pub returns-in_err-reserve-clause-full : goal.returns-in_err-reserve-clause-full
returns-in_err-reserve-clause-full c =
    let p = err_from_is_err_and c.from_residual.result c.from_residual.ensures.1 in
    rw p.1 (λ _. omega (arith, c.in_err-reserve.ensures.full, c.min.ensures))

pub returns-in_err-to-clause-behind : goal.returns-in_err-to-clause-behind
returns-in_err-to-clause-behind c =
    let p = err_from_is_err_and c.from_residual-in_err-to.result c.from_residual-in_err-to.ensures.1 in
    rw p.1 tt

pub returns-in_err-to-clause-full : goal.returns-in_err-to-clause-full
returns-in_err-to-clause-full c =
    let p = err_from_is_err_and c.from_residual-in_err-to.result c.from_residual-in_err-to.ensures.1 in
    rw (p.1, p.2) (λ is. absurd (c.in_err-to.ensures.memory (ap Err is)))

pub push_reserved-requires : goal.push_reserved-requires
push_reserved-requires c =
    let inv = c.loop-i.invariant in
    omega (arith, inv.long, inv.spare, inv.left, c.in_ok-to.ensures.behind, c.loop-i-test.true)
