use Rattle.service_laws.proofs.PortKept.{first_edits}
use Rattle.service_laws.proofs.ports.port_opens_to_its_first_edits.Goals as goal

pub returns : goal.returns
returns g c = let d = g.D.Sectors in first_edits d.sectors d.honest d.history
