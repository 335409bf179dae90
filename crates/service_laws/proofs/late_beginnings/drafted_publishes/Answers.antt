use Rattle.tile_service.proofs.Publications.Drafts as drafts
use Rattle.service_laws.proofs.late_beginnings.drafted_publishes.Goals as goal

pub returns : goal.returns
returns c = drafts.drafted_publishes
