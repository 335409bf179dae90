use Rattle.std.proofs.Common.{◌≡◌, List, ◌∷◌, [], Ok, Err, ◌∙◌, subst}
use Rattle.std.proofs.lemmas.Result.{err_from_is_err_and}
use Rattle.geometry_commands.specs.declared.point.Pt.{Pt}
use Rattle.geometry_commands.specs.Decoding.{Walk, walk_at}
use Rattle.geometry_commands.proofs.Past.{line_no_first, line_behind, others_stop, close_stop, line_whole}
use Rattle.geometry_commands.proofs.decoding.line_of.Goals as goal

pub returns-in_err-first-clause-exact : goal.returns-in_err-first-clause-exact
returns-in_err-first-clause-exact c =
    let p = err_from_is_err_and c.from_residual-in_err-first.result c.from_residual-in_err-first.ensures.1 in
    rw (p.1, p.2) (λ _. line_no_first c.args.closed c.args.from c.args.from c.args.ints.now c.in_ok-rest.rest.now [] c.in_ok-rest.ensures.found _
    c.in_err-first.ensures.exact)

pub returns-in_err-count-clause-exact : goal.returns-in_err-count-clause-exact
returns-in_err-count-clause-exact c =
    let p = err_from_is_err_and c.from_residual-in_err-count.result c.from_residual-in_err-count.ensures.1 in
    let first = c.in_ok-first.first in
    rw (p.1, p.2) (λ _.
    line_behind c.args.closed c.args.from first c.args.ints.now c.in_ok-rest.rest.now c.in_ok-first.rest.now c.in_ok-rest.ensures.found
    c.in_ok-first.ensures.exact
    ∙ c.in_err-count.ensures.fault (first ∷ []) first)

pub returns-in_err-points-clause-exact : goal.returns-in_err-points-clause-exact
returns-in_err-points-clause-exact c =
    let p = err_from_is_err_and c.from_residual-in_err-points.result c.from_residual-in_err-points.ensures.1 in
    let first = c.in_ok-first.first in
    let count = c.in_ok-count.count in
    let rest = c.in_ok-count.rest.now in
    rw (p.1, p.2) (λ other.
    line_behind c.args.closed c.args.from first c.args.ints.now c.in_ok-rest.rest.now c.in_ok-first.rest.now c.in_ok-rest.ensures.found
    c.in_ok-first.ensures.exact
    ∙ others_stop c.args.closed (first ∷ [], first, c.in_ok-first.rest.now) count rest c.in_ok-count.ensures.found.0 c.in_ok-count.ensures.found.1 _
    (subst (λ (ps : List Pt). walk_at count ps first rest ≡ Err c.in_err-points.field-0.0) c.in_ok-begun.ensures.first (c.in_err-points.ensures.exact other)))

pub returns-in_err-rest-2-clause-exact : goal.returns-in_err-rest-2-clause-exact
returns-in_err-rest-2-clause-exact c =
    let p = err_from_is_err_and c.from_residual-in_err-rest-2.result c.from_residual-in_err-rest-2.ensures.1 in
    let first = c.in_ok-first.first in
    let count = c.in_ok-count.count in
    let rest = c.in_ok-count.rest.now in
    let all : Walk = (c.in_ok-points.points.items, c.in_ok-points.at, c.in_ok-points.rest.now) in
    rw (p.1, p.2) (λ _.
    line_behind c.args.closed c.args.from first c.args.ints.now c.in_ok-rest.rest.now c.in_ok-first.rest.now c.in_ok-rest.ensures.found
    c.in_ok-first.ensures.exact
    ∙ close_stop c.args.closed (first ∷ [], first, c.in_ok-first.rest.now) count rest c.in_ok-count.ensures.found.0 c.in_ok-count.ensures.found.1 all _
    (subst (λ (ps : List Pt). walk_at count ps first rest ≡ Ok all) c.in_ok-begun.ensures.first c.in_ok-points.ensures.exact) c.in_err-rest-2.ensures.exact)

pub returns-clause-exact : goal.returns-clause-exact
returns-clause-exact c =
    let first = c.in_ok-first.first in
    let count = c.in_ok-count.count in
    let rest = c.in_ok-count.rest.now in
    let all : Walk = (c.in_ok-points.points.items, c.in_ok-points.at, c.in_ok-points.rest.now) in
    line_behind c.args.closed c.args.from first c.args.ints.now c.in_ok-rest.rest.now c.in_ok-first.rest.now c.in_ok-rest.ensures.found
    c.in_ok-first.ensures.exact
    ∙ line_whole c.args.closed (first ∷ [], first, c.in_ok-first.rest.now) count rest c.in_ok-count.ensures.found.0 c.in_ok-count.ensures.found.1 all
    c.in_ok-rest-2.rest.now
    (subst (λ (ps : List Pt). walk_at count ps first rest ≡ Ok all) c.in_ok-begun.ensures.first c.in_ok-points.ensures.exact) c.in_ok-rest-2.ensures.exact
