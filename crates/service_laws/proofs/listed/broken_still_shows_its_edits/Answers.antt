use Rattle.service_laws.proofs.StillShown.{still_shown}
use Rattle.service_laws.proofs.listed.broken_still_shows_its_edits.Goals as goal

pub returns : goal.returns
returns g c =
    let d = g.D.Sectors in
    λ old new happening edits takes broken. still_shown d.sectors d.honest d.history old new happening takes broken edits
