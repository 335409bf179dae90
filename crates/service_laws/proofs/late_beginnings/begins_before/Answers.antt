use Rattle.std.proofs.Common.{◌≡◌, true}
use Rattle.service_laws.proofs.Beginnings as laws
use Rattle.service_laws.proofs.late_beginnings.begins_before.Goals as goal

pub returns : goal.returns
returns c honest old began left happenings new begins beside run = laws.begins_before (honest ≡ true) old began left happenings new begins beside run
