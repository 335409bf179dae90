use Rattle.tile_service.proofs.Edits.EditStored.{drafted_on}
use Rattle.service_laws.proofs.late_beginnings.stays_drafted.Goals as goal

pub returns : goal.returns
returns c = drafted_on
