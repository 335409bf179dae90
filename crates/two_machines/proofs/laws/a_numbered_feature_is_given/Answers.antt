use Rattle.tile_service.specs.Service.{status_of}
use Rattle.map_replies.specs.Conditions.{needed}
use Rattle.map_replies.specs.Meanings.{DiskFailed}
use Rattle.map_replies.proofs.NumberedPuts.{put_asks}
use Rattle.two_machines.proofs.GivenPuts.{asks_given}
use Rattle.two_machines.proofs.laws.a_numbered_feature_is_given.Goals as goal

pub returns : goal.returns
returns g c =
    let d = g.D.Sectors in
    λ first edits id number ask body reply happenings old new said means.
    asks_given first edits (status_of old) id number body happenings said
    (put_asks (DiskFailed d.faults old new) (status_of old) ask.query (needed ask) id number body reply happenings means)
