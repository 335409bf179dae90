use Rattle.service_laws.proofs.Begun.{begun}
use Rattle.service_laws.proofs.late_beginnings.begins_as_it_was.Goals as goal

pub returns : goal.returns
returns g c =
    let d = g.D.Sectors in
    begun d.sectors d.honest d.history
