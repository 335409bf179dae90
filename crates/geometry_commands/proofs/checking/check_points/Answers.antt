use Rattle.std.proofs.Common.{◌<◌, [], length, arith}
use Rattle.std.proofs.lemmas.Result.{err_from_is_err_and}
use Rattle.geometry_commands.specs.Decoding.{Walk, points_at}
use Rattle.geometry_commands.proofs.Past.{is_ok, points_none, points_stop, points_whole, points_more}
use Rattle.geometry_commands.proofs.checking.check_points.Goals as goal

pub returns-in_err-_at-clause-fault : goal.returns-in_err-_at-clause-fault
returns-in_err-_at-clause-fault c =
    let p = err_from_is_err_and c.from_residual-in_err-_at.result c.from_residual-in_err-_at.ensures.1 in
    let here : 0 < length c.args.ints.now = omega (arith, c.if-ints-eq0.false) in
    rw (p.1, p.2) (points_stop c.args.ints.now c.in_ok-count.count c.in_ok-count.rest.now c.in_ok-count.ensures.found.0 here c.in_ok-count.ensures.found.1 _
    (c.in_err-_at.ensures.fault []))

pub returns-then-ints-eq0-clause-found : goal.returns-then-ints-eq0-clause-found
returns-then-ints-eq0-clause-found c = points_none c.args.ints.now (omega (arith, c.if-ints-eq0.true))

pub returns-then-rest-eq0-clause-found : goal.returns-then-rest-eq0-clause-found
returns-then-rest-eq0-clause-found c =
    let here : 0 < length c.args.ints.now = omega (arith, c.if-ints-eq0.false) in
    let w = c.in_ok-_at.ensures.found [] in
    let all : Walk = (w.0, c.in_ok-_at._at, c.in_ok-_at.rest.now) in
    is_ok (points_at c.args.ints.now) w.0 (points_whole c.args.ints.now c.in_ok-count.count c.in_ok-count.rest.now c.in_ok-count.ensures.found.0 here
    c.in_ok-count.ensures.found.1 all w.1 (omega (arith, c.if-rest-eq0.true)))

pub returns-else-rest-eq0-clause-fault : goal.returns-else-rest-eq0-clause-fault
returns-else-rest-eq0-clause-fault c =
    let here : 0 < length c.args.ints.now = omega (arith, c.if-ints-eq0.false) in
    let w = c.in_ok-_at.ensures.found [] in
    let all : Walk = (w.0, c.in_ok-_at._at, c.in_ok-_at.rest.now) in
    points_more c.args.ints.now c.in_ok-count.count c.in_ok-count.rest.now c.in_ok-count.ensures.found.0 here c.in_ok-count.ensures.found.1 all w.1
    (omega (arith, c.if-rest-eq0.false))
