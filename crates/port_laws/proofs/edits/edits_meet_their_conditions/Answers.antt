use Rattle.port_laws.proofs.MetConditions.{met}
use Rattle.port_laws.proofs.edits.edits_meet_their_conditions.Goals as goal

pub returns : goal.returns
returns g c = λ version id needed method body reply happenings old new.
    met g.D.Sectors.sectors g.D.Sectors.honest g.D.Sectors.history _ version needed id method body reply happenings old new
