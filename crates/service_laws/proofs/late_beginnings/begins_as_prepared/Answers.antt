use Rattle.service_laws.proofs.Prepared.{begun_prepared, refused_prepared}
use Rattle.service_laws.proofs.late_beginnings.begins_as_prepared.Goals as goal

pub returns-clause-begun : goal.returns-clause-begun
returns-clause-begun g c =
    let s = g.D.Sectors in
    λ then now happenings d left publication can beside all is begins.
    begun_prepared s.sectors s.honest s.history then now happenings d can all is left publication beside begins

pub returns-clause-refused : goal.returns-clause-refused
returns-clause-refused g c =
    let s = g.D.Sectors in
    λ then now happenings d fault publication can beside all is begins.
    refused_prepared s.sectors s.honest s.history then now happenings d can all is fault publication begins
