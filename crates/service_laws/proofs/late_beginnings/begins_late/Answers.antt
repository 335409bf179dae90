use Rattle.service_laws.proofs.Late.{late}
use Rattle.service_laws.proofs.late_beginnings.begins_late.Goals as goal

pub returns : goal.returns
returns g c =
    let d = g.D.Sectors in
    λ old new p left happenings none fresh beside begins all. late d.sectors d.honest d.history p fresh old new left happenings none beside begins all
