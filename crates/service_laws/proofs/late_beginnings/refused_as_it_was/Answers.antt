use Rattle.service_laws.proofs.Begun.{refused}
use Rattle.service_laws.proofs.late_beginnings.refused_as_it_was.Goals as goal

pub returns : goal.returns
returns g c =
    let d = g.D.Sectors in
    refused d.sectors d.honest d.history
