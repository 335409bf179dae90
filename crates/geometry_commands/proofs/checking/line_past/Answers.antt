use Rattle.std.proofs.Common.{◌∷◌, [], ◌∙◌}
use Rattle.std.proofs.lemmas.Result.{err_from_is_err_and}
use Rattle.geometry_commands.proofs.Past.{line_no_first, line_behind, others_stop, close_stop, line_whole}
use Rattle.geometry_commands.proofs.checking.line_past.Goals as goal

pub returns-in_err-rest-clause-fault : goal.returns-in_err-rest-clause-fault
returns-in_err-rest-clause-fault c =
    let p = err_from_is_err_and c.from_residual.result c.from_residual.ensures.1 in
    rw (p.1, p.2) (c.in_err-rest.ensures.fault c.args.closed c.args.from)

pub returns-in_err-first-clause-fault : goal.returns-in_err-first-clause-fault
returns-in_err-first-clause-fault c =
    let p = err_from_is_err_and c.from_residual-in_err-first.result c.from_residual-in_err-first.ensures.1 in
    rw (p.1, p.2) (line_no_first c.args.closed c.args.from c.args.from c.args.ints.now c.in_ok-rest.rest.now [] c.in_ok-rest.ensures.found _
    c.in_err-first.ensures.exact)

pub returns-in_err-count-clause-fault : goal.returns-in_err-count-clause-fault
returns-in_err-count-clause-fault c =
    let p = err_from_is_err_and c.from_residual-in_err-count.result c.from_residual-in_err-count.ensures.1 in
    rw (p.1, p.2) (
    line_behind c.args.closed c.args.from c.in_ok-first.first c.args.ints.now c.in_ok-rest.rest.now c.in_ok-first.rest.now c.in_ok-rest.ensures.found
    c.in_ok-first.ensures.exact
    ∙ c.in_err-count.ensures.fault (c.in_ok-first.first ∷ []) c.in_ok-first.first)

pub returns-in_err-at-clause-fault : goal.returns-in_err-at-clause-fault
returns-in_err-at-clause-fault c =
    let p = err_from_is_err_and c.from_residual-in_err-at.result c.from_residual-in_err-at.ensures.1 in
    let first = c.in_ok-first.first in
    rw (p.1, p.2) (
    line_behind c.args.closed c.args.from first c.args.ints.now c.in_ok-rest.rest.now c.in_ok-first.rest.now c.in_ok-rest.ensures.found
    c.in_ok-first.ensures.exact
    ∙ others_stop c.args.closed (first ∷ [], first, c.in_ok-first.rest.now) c.in_ok-count.count c.in_ok-count.rest.now c.in_ok-count.ensures.found.0
    c.in_ok-count.ensures.found.1 _ (c.in_err-at.ensures.fault (first ∷ [])))

pub returns-in_err-rest-2-clause-fault : goal.returns-in_err-rest-2-clause-fault
returns-in_err-rest-2-clause-fault c =
    let p = err_from_is_err_and c.from_residual-in_err-rest-2.result c.from_residual-in_err-rest-2.ensures.1 in
    let first = c.in_ok-first.first in
    let w = c.in_ok-at.ensures.found (first ∷ []) in
    rw (p.1, p.2) (
    line_behind c.args.closed c.args.from first c.args.ints.now c.in_ok-rest.rest.now c.in_ok-first.rest.now c.in_ok-rest.ensures.found
    c.in_ok-first.ensures.exact
    ∙ close_stop c.args.closed (first ∷ [], first, c.in_ok-first.rest.now) c.in_ok-count.count c.in_ok-count.rest.now c.in_ok-count.ensures.found.0
    c.in_ok-count.ensures.found.1 (w.0, c.in_ok-at.at, c.in_ok-at.rest.now) _ w.1 c.in_err-rest-2.ensures.exact)

pub returns-clause-found : goal.returns-clause-found
returns-clause-found c =
    let first = c.in_ok-first.first in
    let w = c.in_ok-at.ensures.found (first ∷ []) in (
      w.0,
      line_behind c.args.closed c.args.from first c.args.ints.now c.in_ok-rest.rest.now c.in_ok-first.rest.now c.in_ok-rest.ensures.found
          c.in_ok-first.ensures.exact
          ∙ line_whole c.args.closed (first ∷ [], first, c.in_ok-first.rest.now) c.in_ok-count.count c.in_ok-count.rest.now c.in_ok-count.ensures.found.0
          c.in_ok-count.ensures.found.1 (w.0, c.in_ok-at.at, c.in_ok-at.rest.now) c.in_ok-rest-2.rest.now w.1 c.in_ok-rest-2.ensures.exact,
    )
