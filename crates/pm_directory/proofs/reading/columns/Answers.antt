use Rattle.std.proofs.Common.{arith}
use Rattle.std.proofs.lemmas.Result.{err_from_is_err_and}
use Rattle.pm_directory.proofs.NumberLaws.{has_room}
use Rattle.pm_directory.proofs.reading.columns.Goals as goal

pub returns-in_err-numbers-clause-memory : goal.returns-in_err-numbers-clause-memory
returns-in_err-numbers-clause-memory c =
    let p = err_from_is_err_and c.from_residual-in_err-numbers.result c.from_residual-in_err-numbers.ensures.1 in
    rw (p.1, p.2) (λ e. has_room c.args.bytes.now c.in_ok-count.count c.in_ok-count.rest.now c.in_ok-count.ensures.count.0 c.in_ok-count.ensures.count.1
    (c.in_err-numbers.ensures.memory e))

pub returns-clause-room : goal.returns-clause-room
returns-clause-room c some =
    has_room c.args.bytes.now c.in_ok-count.count c.in_ok-count.rest.now c.in_ok-count.ensures.count.0 c.in_ok-count.ensures.count.1 (omega (arith, some))

pub returns-in_err-count-clause-four : goal.returns-in_err-count-clause-four
returns-in_err-count-clause-four c = rw ((err_from_is_err_and c.from_residual.result c.from_residual.ensures.1).1) tt

pub returns-in_err-count-clause-room : goal.returns-in_err-count-clause-room
returns-in_err-count-clause-room c = rw ((err_from_is_err_and c.from_residual.result c.from_residual.ensures.1).1) tt

pub returns-in_err-numbers-clause-four : goal.returns-in_err-numbers-clause-four
returns-in_err-numbers-clause-four c = rw ((err_from_is_err_and c.from_residual-in_err-numbers.result c.from_residual-in_err-numbers.ensures.1).1) tt

pub returns-in_err-numbers-clause-room : goal.returns-in_err-numbers-clause-room
returns-in_err-numbers-clause-room c = rw ((err_from_is_err_and c.from_residual-in_err-numbers.result c.from_residual-in_err-numbers.ensures.1).1) tt
