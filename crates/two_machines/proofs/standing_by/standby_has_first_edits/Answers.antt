use Rattle.map_replies.specs.Meanings.{DiskFailed}
use Rattle.two_machines.proofs.StandbyLaws.{keeps_first_edits}
use Rattle.two_machines.proofs.standing_by.standby_has_first_edits.Goals as goal

pub returns : goal.returns
returns g c =
    let d = g.D.Sectors in
    λ m first edits query number body reply happenings old new.
    keeps_first_edits d.sectors d.honest d.history (DiskFailed d.faults old new) m first edits query number body reply happenings old new
