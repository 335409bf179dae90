use Rattle.map_replies.specs.Meanings.{DiskFailed}
use Rattle.port_laws.proofs.SeenEdits.{replaced_seen}
use Rattle.port_laws.proofs.edits.replaces_what_was_seen.Goals as goal

pub returns : goal.returns
returns g c =
    let d = g.D.Sectors in
    λ version body reply happenings old new.
    replaced_seen d.sectors d.honest d.history (DiskFailed d.faults old new) version body reply happenings old new
