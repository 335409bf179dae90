use Rattle.std.proofs.Common.{◌≡◌, ℕ, ◌-◌, ◌++◌, ◌∷◌, [], ap, arith}
use Rattle.std.proofs.lemmas.Result.{err_from_is_err_and}
use Rattle.reader.proofs.Steps.{repeated_on, repeated_stop, repeated_done}
use Rattle.geometry_commands.specs.Decoding.{walk_step, walk_at}
use Rattle.geometry_commands.proofs.Stepwise.{walk_step_on, walk_step_stop}
use Rattle.geometry_commands.proofs.checking.walk_past.Goals as goal

pub loop-i-init : goal.loop-i-init
loop-i-init c = λ before.
    let all : c.args.count - 0 ≡ c.args.count = omega arith in
    (before, ap (λ (n : ℕ). walk_at n before c.args.from c.args.ints.now) all)

pub loop-i-preserved : goal.loop-i-preserved
loop-i-preserved c = λ before.
    let h = c.loop-i.invariant before in
    let stepped = walk_step_on h.0 c.loop-i.at c.in_ok-to.to c.loop-i.rest.now c.in_ok-to.after.now c.in_ok-to.ensures.exact in
    (h.0 ++ c.in_ok-to.to ∷ [], repeated_on walk_step c.args.count c.loop-i.i (h.0, c.loop-i.at, c.loop-i.rest.now) _ _ c.loop-i-test.true h.1 stepped)

pub returns-in_err-to-clause-fault : goal.returns-in_err-to-clause-fault
returns-in_err-to-clause-fault c =
    let p = err_from_is_err_and c.from_residual.result c.from_residual.ensures.1 in
    rw (p.1, p.2) (λ before.
    let h = c.loop-i.invariant before in
    let stopped = walk_step_stop h.0 c.loop-i.at c.loop-i.rest.now c.in_err-to.field-0.0 c.in_err-to.ensures.exact in
    repeated_stop walk_step c.args.count c.loop-i.i (h.0, c.loop-i.at, c.loop-i.rest.now) _ _ c.loop-i-test.true h.1 stopped)

pub returns-in_err-to-clause-found : goal.returns-in_err-to-clause-found
returns-in_err-to-clause-found c =
    let p = err_from_is_err_and c.from_residual.result c.from_residual.ensures.1 in
    rw p.1 (λ before. tt)

pub returns-clause-found : goal.returns-clause-found
returns-clause-found c = λ before.
    let h = c.loop-i.invariant before in
    (h.0, repeated_done walk_step c.args.count c.loop-i.i (h.0, c.loop-i.at, c.loop-i.rest.now) _ c.loop-i-test.false h.1)
