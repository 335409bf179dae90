use Rattle.tile_service.proofs.Runs.KeptEdits.{listed_acknowledged, keeps_listed}
use Rattle.service_laws.proofs.listed.listed_edits_are_kept.Goals as goal

pub returns-clause-acknowledged : goal.returns-clause-acknowledged
returns-clause-acknowledged g c =
    let d = g.D.Sectors in
    λ start old new happenings run is_honest up. listed_acknowledged d.sectors d.honest d.history old new start happenings run is_honest up

pub returns-clause-kept : goal.returns-clause-kept
returns-clause-kept g c =
    let d = g.D.Sectors in
    λ start old new happenings run is_honest up. keeps_listed d.sectors d.honest d.history old new start happenings run is_honest up
