use Rattle.two_machines.proofs.StandbyLaws.{told_are_edits}
use Rattle.two_machines.proofs.standing_by.feed_tells_the_edits.Goals as goal

pub returns : goal.returns
returns g c =
    let d = g.D.Sectors in
    told_are_edits d.sectors d.honest d.history
