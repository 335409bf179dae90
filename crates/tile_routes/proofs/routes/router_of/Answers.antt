use Rattle.std.proofs.lemmas.Result.{err_from_is_err_and}
use Rattle.tile_routes.proofs.Inserts.{one_more, all_taken, one_refused, more_fit}
use Rattle.tile_routes.proofs.routes.router_of.Goals as goal

pub loop-path-preserved : goal.loop-path-preserved
loop-path-preserved c = record {
  rows = one_more c.args.rows.now c.loop-path.path-index _ c.loop-path.router c.insert.new.self _ c.in_ok-insert.field-0 c.loop-path-test.true
      c.in_ok-insert.ensures c.loop-path.invariant.rows;
  fit = more_fit c.args.rows.now c.loop-path.path-index _ c.loop-path.router c.insert.new.self c.in_ok-insert.field-0 c.loop-path-test.true
      c.loop-path.invariant.fit c.in_ok-insert.ensures;
}

pub returns-in_err-insert-clause-rows : goal.returns-in_err-insert-clause-rows
returns-in_err-insert-clause-rows c =
    let p = err_from_is_err_and c.from_residual.result c.from_residual.ensures.1 in
    rw p.1 tt

pub returns-in_err-insert-clause-memory : goal.returns-in_err-insert-clause-memory
returns-in_err-insert-clause-memory c =
    let p = err_from_is_err_and c.from_residual.result c.from_residual.ensures.1 in
    rw (p.1, p.2) (one_refused c.args.rows.now c.loop-path.path-index _ c.loop-path.router c.insert.new.self c.in_err-insert.field-0.0 c.loop-path-test.true
    c.loop-path.invariant.fit c.in_err-insert.ensures)

pub returns-clause-rows : goal.returns-clause-rows
returns-clause-rows c = all_taken c.args.rows.now c.loop-path.path-index c.loop-path.router _ c.loop-path-test.false c.loop-path.invariant.rows
