use Rattle.std.proofs.Common.{◌≡◌, ◌++◌, ◌∷◌, [], refl, length, arith}
use Rattle.std.proofs.lemmas.Result.{err_from_is_err_and}
use Rattle.geometry_commands.specs.Decoding.{lines_at}
use Rattle.geometry_commands.proofs.Past.{is_ok}
use Rattle.geometry_commands.proofs.Spelled.{line_shorter, lines_on, lines_fault, lines_done}
use Rattle.geometry_commands.proofs.checking.check_lines.Goals as goal

pub loop-rest-init : goal.loop-rest-init
loop-rest-init c = ([], refl)

pub loop-rest-smaller : goal.loop-rest-smaller
loop-rest-smaller c =
    let w = c.in_ok-to.ensures.found in
    line_shorter c.args.closed c.loop-rest.at c.loop-rest.rest.now (w.0, c.in_ok-to.to, c.in_ok-to.after.now) w.1

pub loop-rest-preserved : goal.loop-rest-preserved
loop-rest-preserved c =
    let w = c.in_ok-to.ensures.found in
    let h = c.loop-rest.invariant in
    (h.0 ++ w.0 ∷ [], lines_on c.args.closed h.0 c.loop-rest.at c.loop-rest.rest.now (w.0, c.in_ok-to.to, c.in_ok-to.after.now) _ w.1 h.1)

pub returns-in_err-to-clause-fault : goal.returns-in_err-to-clause-fault
returns-in_err-to-clause-fault c =
    let p = err_from_is_err_and c.from_residual.result c.from_residual.ensures.1 in
    let h = c.loop-rest.invariant in
    rw (p.1, p.2) (lines_fault c.args.closed h.0 c.loop-rest.at c.loop-rest.rest.now _ c.loop-rest-test.true h.1 _ c.in_err-to.ensures.fault)

pub returns-clause-found : goal.returns-clause-found
returns-clause-found c =
    let none : length c.loop-rest.rest.now ≡ 0 = omega arith in
    let h = c.loop-rest.invariant in
    is_ok (lines_at c.args.closed c.args.ints.now) h.0 (lines_done c.args.closed h.0 c.loop-rest.at c.loop-rest.rest.now _ none h.1)
