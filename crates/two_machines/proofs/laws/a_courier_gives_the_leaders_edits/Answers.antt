use Rattle.two_machines.proofs.Ports.{port_given}
use Rattle.two_machines.proofs.laws.a_courier_gives_the_leaders_edits.Goals as goal

pub returns : goal.returns
returns g c =
    let d = g.D.Sectors in
    λ first edits old new served run fixed is. port_given d.sectors d.honest d.history d.faults first edits old new served run fixed is
