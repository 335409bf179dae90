use Rattle.service_laws.proofs.CopyHeld.{copy_holds}
use Rattle.service_laws.proofs.copies.copies_hold.Goals as goal

pub returns : goal.returns
returns c sectors size n last stored source copy fits holds copied = copy_holds sectors size n last stored source copy fits holds copied
