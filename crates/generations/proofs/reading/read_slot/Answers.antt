use Rattle.std.proofs.Common.{inl}
use Rattle.generations.proofs.Exits.{passed_on}
use Rattle.generations.proofs.reading.read_slot.Goals as goal

pub returns-in_err-sector-clause-disk : goal.returns-in_err-sector-clause-disk
returns-in_err-sector-clause-disk g c = c.in_err-sector.ensures.disk

pub returns-in_err-sector-clause-failed : goal.returns-in_err-sector-clause-failed
returns-in_err-sector-clause-failed g c =
    rw (passed_on c.from_residual.result c.in_err-sector.field-0.0 c.from_residual.ensures.1) c.in_err-sector.ensures.failed

pub returns-in_err-sector-clause-can : goal.returns-in_err-sector-clause-can
returns-in_err-sector-clause-can g c = rw (passed_on c.from_residual.result c.in_err-sector.field-0.0 c.from_residual.ensures.1) tt

pub returns-in_err-sector-clause-slot : goal.returns-in_err-sector-clause-slot
returns-in_err-sector-clause-slot g c honest = rw (passed_on c.from_residual.result c.in_err-sector.field-0.0 c.from_residual.ensures.1) tt

pub returns-in_err-sector-clause-fault : goal.returns-in_err-sector-clause-fault
returns-in_err-sector-clause-fault g c =
    rw (passed_on c.from_residual.result c.in_err-sector.field-0.0 c.from_residual.ensures.1) (inl c.in_err-sector.ensures.device)

pub returns-in_err-sector-clause-bad : goal.returns-in_err-sector-clause-bad
returns-in_err-sector-clause-bad g c honest =
    rw (passed_on c.from_residual.result c.in_err-sector.field-0.0 c.from_residual.ensures.1) (inl c.in_err-sector.ensures.device)
