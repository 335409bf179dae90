use Rattle.std.proofs.lemmas.Result.{err_from_is_err_and}
use Rattle.mvt_layer.proofs.Checked.{said_checked, said_fault}
use Rattle.mvt_layer.proofs.checking.check_said.Goals as goal

pub returns-in_err-check_pools-clause-fault : goal.returns-in_err-check_pools-clause-fault
returns-in_err-check_pools-clause-fault c =
    let p = err_from_is_err_and c.from_residual-in_err-check_pools.result c.from_residual-in_err-check_pools.ensures.1 in
    let name = c.in_ok-name.name.now in
    let version = c.in_ok-_version._version in
    let extent = c.in_ok-_extent._extent in
    rw (p.1, p.2) (λ other. said_fault name version extent c.args.fields.now c.in_ok-name.ensures c.in_ok-_version.ensures c.in_ok-_extent.ensures
    c.in_err-check_pools.field-0.0 (c.in_err-check_pools.ensures.fault name version extent other))

pub returns-clause-found : goal.returns-clause-found
returns-clause-found c =
    let name = c.in_ok-name.name.now in
    let version = c.in_ok-_version._version in
    let extent = c.in_ok-_extent._extent in
    said_checked name version extent c.args.fields.now c.in_ok-name.ensures c.in_ok-_version.ensures c.in_ok-_extent.ensures
    (c.in_ok-check_pools.ensures.found name version extent)
