use Rattle.std.proofs.Common.{◌≡◌, ◌≤◌, ◌<◌, ◌+◌, ◌-◌, ◌^◌, ℕ, min, inl, inr, ⊎_elim, refl, arith}
use Rattle.std.proofs.lemmas.Bool.{cases_lt}
use Rattle.sector_disk.specs.Disk.{HasFailed}
use Rattle.sector_disk.proofs.AskedLaws.{reads_none, reads_may}
use Rattle.disk_copy.proofs.sectors.copy_sector.Goals as goal

-- a fault that is counted
counted : (old new : ℕ) → new ≡ min (old + 1) (2 ^ 64 - 1) → HasFailed old new
counted old new is = ⊎_elim
    (λ (lt : old < 2 ^ 64 - 1). inl (omega (arith, lt, is)))
    (λ (ge : 2 ^ 64 - 1 ≤ old). inr (omega (arith, ge, is)))
    (cases_lt old (2 ^ 64 - 1))

pub read_anew-requires : goal.read_anew-requires
read_anew-requires g c = c.requires.on_disk

pub returns-in-Err-clause-disk : goal.returns-in-Err-clause-disk
returns-in-Err-clause-disk g c = c.read_anew.ensures.disk

pub returns-in-Err-clause-into : goal.returns-in-Err-clause-into
returns-in-Err-clause-into g c = reads_may (reads_none {history = g.E.Sectors.history} _)

pub returns-in-Err-clause-failed : goal.returns-in-Err-clause-failed
returns-in-Err-clause-failed g c = (counted _ _ c.in-Err.ensures.faults, refl)

pub returns-in-Err-clause-outside : goal.returns-in-Err-clause-outside
returns-in-Err-clause-outside g c = inl refl

pub write-requires : goal.write-requires
write-requires g c = c.requires.fits

pub returns-in-Ok-write-clause-disk : goal.returns-in-Ok-write-clause-disk
returns-in-Ok-write-clause-disk g c = c.read_anew.ensures.disk

pub returns-in-Ok-write-clause-into : goal.returns-in-Ok-write-clause-into
returns-in-Ok-write-clause-into g c = c.write.ensures.disk

pub returns-in-Ok-write-clause-failed : goal.returns-in-Ok-write-clause-failed
returns-in-Ok-write-clause-failed g c = (c.in-Ok.ensures.faults, c.in-Ok-write.ensures.faults)

pub returns-in-Err-write-clause-disk : goal.returns-in-Err-write-clause-disk
returns-in-Err-write-clause-disk g c = c.read_anew.ensures.disk

pub returns-in-Err-write-clause-into : goal.returns-in-Err-write-clause-into
returns-in-Err-write-clause-into g c = c.write.ensures.disk

pub returns-in-Err-write-clause-failed : goal.returns-in-Err-write-clause-failed
returns-in-Err-write-clause-failed g c = (c.in-Ok.ensures.faults, counted _ _ c.in-Err-write.ensures.faults)

pub returns-in-Err-write-clause-outside : goal.returns-in-Err-write-clause-outside
returns-in-Err-write-clause-outside g c = inr (inr refl)

pub returns-in-Err-clause-later : goal.returns-in-Err-clause-later
returns-in-Err-clause-later g c = c.read_anew.ensures.later

pub returns-in-Ok-write-clause-later : goal.returns-in-Ok-write-clause-later
returns-in-Ok-write-clause-later g c = c.read_anew.ensures.later

pub returns-in-Err-write-clause-later : goal.returns-in-Err-write-clause-later
returns-in-Err-write-clause-later g c = c.read_anew.ensures.later
