use Rattle.generations.proofs.Parts.{cleared_within, cleared_leaves, synced_holds}
use Rattle.std.proofs.Common.{◌∙◌}
use Rattle.std.proofs.lemmas.Result.{err_from_is_err_and}
use Rattle.sector_disk.proofs.AskedLaws.{writes_on}
use Rattle.generations.proofs.formatting.clear.Goals as goal

pub returns-in_err-sync-clause-leaves : goal.returns-in_err-sync-clause-leaves
returns-in_err-sync-clause-leaves g c honest =
    let before = c.sync.ensures.disk.was_honest honest in
    cleared_leaves _ _ _ _ (c.sync.ensures.syncs honest) (c.write_zeros.ensures.within before) (c.write_zeros.ensures.leaves before)

pub returns-in_err-sync-clause-within : goal.returns-in_err-sync-clause-within
returns-in_err-sync-clause-within g c honest =
    cleared_within _ _ _ _ (c.sync.ensures.syncs honest) (c.write_zeros.ensures.within (c.sync.ensures.disk.was_honest honest))

pub returns-clause-leaves : goal.returns-clause-leaves
returns-clause-leaves g c honest =
    let before = c.sync.ensures.disk.was_honest honest in
    cleared_leaves _ _ _ _ (c.sync.ensures.syncs honest) (c.write_zeros.ensures.within before) (c.write_zeros.ensures.leaves before)

pub returns-clause-within : goal.returns-clause-within
returns-clause-within g c honest =
    cleared_within _ _ _ _ (c.sync.ensures.syncs honest) (c.write_zeros.ensures.within (c.sync.ensures.disk.was_honest honest))

pub returns-clause-empty : goal.returns-clause-empty
returns-clause-empty g c honest =
    synced_holds _ _ c.args.end (c.in_ok-sync.ensures.syncs honest) (c.in_ok-write_zeros.ensures.empty (c.sync.ensures.disk.was_honest honest))

pub returns-in_err-write_zeros-clause-disk : goal.returns-in_err-write_zeros-clause-disk
returns-in_err-write_zeros-clause-disk g c = c.in_err-write_zeros.ensures.disk

pub returns-in_err-write_zeros-clause-failed : goal.returns-in_err-write_zeros-clause-failed
returns-in_err-write_zeros-clause-failed g c = rw ((err_from_is_err_and c.from_residual.result c.from_residual.ensures.1).1) c.in_err-write_zeros.ensures.failed

pub returns-in_err-write_zeros-clause-leaves : goal.returns-in_err-write_zeros-clause-leaves
returns-in_err-write_zeros-clause-leaves g c = c.in_err-write_zeros.ensures.leaves

pub returns-in_err-write_zeros-clause-within : goal.returns-in_err-write_zeros-clause-within
returns-in_err-write_zeros-clause-within g c = c.in_err-write_zeros.ensures.within

pub returns-in_err-write_zeros-clause-empty : goal.returns-in_err-write_zeros-clause-empty
returns-in_err-write_zeros-clause-empty g c honest = rw ((err_from_is_err_and c.from_residual.result c.from_residual.ensures.1).1) tt

pub returns-in_err-sync-clause-disk : goal.returns-in_err-sync-clause-disk
returns-in_err-sync-clause-disk g c = writes_on c.write_zeros.ensures.disk c.sync.ensures.disk

pub returns-in_err-sync-clause-empty : goal.returns-in_err-sync-clause-empty
returns-in_err-sync-clause-empty g c honest = rw ((err_from_is_err_and c.from_residual-in_err-sync.result c.from_residual-in_err-sync.ensures.1).1) tt

pub returns-clause-disk : goal.returns-clause-disk
returns-clause-disk g c = writes_on c.write_zeros.ensures.disk c.sync.ensures.disk

pub returns-clause-failed : goal.returns-clause-failed
returns-clause-failed g c = c.in_ok-sync.ensures.faults ∙ c.in_ok-write_zeros.ensures.failed
