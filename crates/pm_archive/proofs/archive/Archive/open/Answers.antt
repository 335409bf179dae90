use Rattle.pm_archive.proofs.OpenedLaws.{opened_once, opened_unless}
use Rattle.pm_archive.proofs.archive.Archive.open.Goals as goal

pub returns-in-Ok-clause-only : goal.returns-in-Ok-clause-only
returns-in-Ok-clause-only g c = λ bytes h root has dir holds.
    let found = c.in-Ok.ensures.found bytes holds in
    opened_once bytes c.in-Ok.header h c.in-Ok.root.items root found.0 found.1 has dir

pub returns-in-Err-clause-only : goal.returns-in-Err-clause-only
returns-in-Err-clause-only g c = λ bytes h root has dir holds. opened_unless bytes h root c.in-Err.fault (c.in-Err.ensures.fault bytes holds) has dir

pub returns-in-Err-clause-fault : goal.returns-in-Err-clause-fault
returns-in-Err-clause-fault g c = c.in-Err.ensures.fault

pub returns-in-Ok-clause-found : goal.returns-in-Ok-clause-found
returns-in-Ok-clause-found g c = c.in-Ok.ensures.found
