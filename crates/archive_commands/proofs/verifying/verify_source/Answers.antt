use Rattle.pm_archive.specs.declared.fault.ArchiveFault.TheVariants.{Read, Memory}
use Rattle.pm_archive.proofs.KeepsLaws.{keeps_on}
use Rattle.archive_commands.proofs.Judged.{same_fault, only_at_opening, fault_at_opening, fault_at_judging}
use Rattle.archive_commands.proofs.verifying.verify_source.Goals as goal

pub returns-in-Err-clause-only : goal.returns-in-Err-clause-only
returns-in-Err-clause-only g c bytes report holds =
    only_at_opening bytes c.in-Err.fault (λ h root has dir. c.in-Err.ensures.only bytes h root has dir holds) report

pub returns-in-Err-clause-fault : goal.returns-in-Err-clause-fault
returns-in-Err-clause-fault g c bytes holds = fault_at_opening bytes c.in-Err.fault (c.in-Err.ensures.fault bytes holds)

pub returns-in-Err-clause-read : goal.returns-in-Err-clause-read
returns-in-Err-clause-read g c e = c.in-Err.ensures.read (same_fault c.in-Err.fault Read e)

pub returns-in-Err-clause-memory : goal.returns-in-Err-clause-memory
returns-in-Err-clause-memory g c bytes holds e = c.in-Err.ensures.memory bytes holds (same_fault c.in-Err.fault Memory e)

pub returns-clause-source : goal.returns-clause-source
returns-clause-source g c =
    rw c.into_source.ensures (keeps_on g.met.B.Bytes.unchanged_on c.in-Ok.ensures.source c.verify-judged.ensures.source)

pub returns-clause-found : goal.returns-clause-found
returns-clause-found g c = rw c.into_source.ensures c.verify-judged.ensures.found

pub returns-clause-only : goal.returns-clause-only
returns-clause-only g c = rw c.into_source.ensures (λ bytes report holds sound. c.verify-judged.ensures.only bytes report holds sound)

pub returns-clause-fault : goal.returns-clause-fault
returns-clause-fault g c = rw c.into_source.ensures (λ bytes holds.
    let found = c.in-Ok.ensures.found bytes (c.verify-judged.ensures.source.no_others bytes holds) in
    fault_at_judging bytes c.in-Ok.archive.header c.in-Ok.archive.root found.0 found.1 c.verify-judged.result (c.verify-judged.ensures.fault bytes holds))

pub returns-clause-read : goal.returns-clause-read
returns-clause-read g c =
    rw c.into_source.ensures (λ e. g.met.B.Bytes.failed_on _ _ _ c.in-Ok.ensures.source.same_behind (c.verify-judged.ensures.read e))
