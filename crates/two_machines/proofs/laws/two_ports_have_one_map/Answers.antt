use Rattle.std.proofs.Common.{◌+◌, length, take, sym, subst}
use Rattle.sector_disk.specs.Disk.{seen}
use Rattle.tile_service.specs.Runs.{acknowledged}
use Rattle.tile_service.specs.Stored.{last_of}
use Rattle.map_replies.specs.Preparing.{inner_service}
use Rattle.two_machines.specs.Machines.{leader_edits, AreGiven}
use Rattle.two_machines.proofs.Ports.{port_given}
use Rattle.two_machines.proofs.Quieter.{first_given}
use Rattle.two_machines.proofs.Stopped.{stays_behind, one_map}
use Rattle.two_machines.proofs.laws.two_ports_have_one_map.Goals as goal

pub returns : goal.returns
returns g c =
    let d = g.D.Sectors in
    let e = g.E.Sectors in
    λ start old new happenings k n disk standby_start standby_old standby_new served run fixed i l standby_disk was standby_was has is.
    let edits = leader_edits start (take k happenings) in
    let given = port_given e.sectors e.honest e.history e.faults start.edits edits standby_old standby_new served run fixed is in
    let these : AreGiven start.edits edits (last_of standby_start) run =
    subst (λ (n : _). AreGiven start.edits edits n run) standby_was.begins.last_is given in
    one_map d.sectors d.honest d.history start old new happenings k n disk was (e.sectors standby_disk) (inner_service standby_old).size
    (last_of standby_start + length (acknowledged (take i run))) (seen (e.history standby_disk))
    (stays_behind e.sectors e.honest e.history standby_start (inner_service standby_old) (inner_service standby_new) run i l standby_disk standby_was
    start.snapshot_map start.edits edits has (first_given start.edits edits (last_of standby_start) l run these))
