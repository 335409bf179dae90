-- With an answer the must-fail edit put_always_refuses is refused at once.
use Rattle.tile_service.proofs.editing.within_limits.Goals as goal

pub returns-in-Ok-check_reach-clause-fault : goal.returns-in-Ok-check_reach-clause-fault
returns-in-Ok-check_reach-clause-fault c = tt
