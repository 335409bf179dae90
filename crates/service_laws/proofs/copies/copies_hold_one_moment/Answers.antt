use Rattle.service_laws.proofs.CopyHeld.{one_holds}
use Rattle.service_laws.proofs.copies.copies_hold_one_moment.Goals as goal

pub returns : goal.returns
returns c = one_holds
