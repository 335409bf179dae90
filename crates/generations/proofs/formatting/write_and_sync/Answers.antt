use Rattle.std.proofs.lemmas.Result.{IfOk-from_err}
use Rattle.sector_disk.proofs.AskedLaws.{writes_on}
use Rattle.generations.proofs.Parts.{wrote_leaves, stood_leaves}
use Rattle.std.proofs.Common.{◌∙◌}
use Rattle.generations.proofs.formatting.write_and_sync.Goals as goal

pub returns-in_err-write-clause-leaves : goal.returns-in_err-write-clause-leaves
returns-in_err-write-clause-leaves g c honest = wrote_leaves _ _ _ _ _ (c.write.ensures.writes honest)

pub returns-in_err-sync-clause-leaves : goal.returns-in_err-sync-clause-leaves
returns-in_err-sync-clause-leaves g c honest =
    stood_leaves _ _ _ _ _ (c.write.ensures.writes (c.sync.ensures.disk.was_honest honest)) _ _ (c.sync.ensures.syncs honest)

pub returns-clause-leaves : goal.returns-clause-leaves
returns-clause-leaves g c honest =
    stood_leaves _ _ _ _ _ (c.write.ensures.writes (c.sync.ensures.disk.was_honest honest)) _ _ (c.sync.ensures.syncs honest)

pub returns-in_err-sync-clause-disk : goal.returns-in_err-sync-clause-disk
returns-in_err-sync-clause-disk g c = writes_on c.write.ensures.disk c.sync.ensures.disk

pub returns-clause-disk : goal.returns-clause-disk
returns-clause-disk g c = writes_on c.write.ensures.disk c.sync.ensures.disk

pub returns-in_err-write-clause-stands : goal.returns-in_err-write-clause-stands
returns-in_err-write-clause-stands g c honest = IfOk-from_err _ _ c.from_residual.ensures.0

pub returns-in_err-sync-clause-stands : goal.returns-in_err-sync-clause-stands
returns-in_err-sync-clause-stands g c honest = IfOk-from_err _ _ c.from_residual-in_err-sync.ensures.0

pub returns-in_err-write-clause-disk : goal.returns-in_err-write-clause-disk
returns-in_err-write-clause-disk g c = c.write.ensures.disk

pub returns-clause-failed : goal.returns-clause-failed
returns-clause-failed g c = c.in_ok-sync.ensures.faults ∙ c.in_ok-write.ensures.faults
