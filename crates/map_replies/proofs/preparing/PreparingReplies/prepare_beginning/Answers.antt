use Rattle.std.proofs.Common.{refl}
use Rattle.map_replies.proofs.ReadyLemmas.{prepares_by}
use Rattle.map_replies.proofs.preparing.PreparingReplies.prepare_beginning.Goals as goal

pub returns-in-Ok : goal.returns-in-Ok
returns-in-Ok g c =
    let d = g.D.Sectors in
    let call = c.publish_prepare.ensures in
    prepares_by d.sectors d.honest d.history d.faults c.args.self.now _ c.publish_prepare.result c.requires.unbegun refl refl call.same call.begins
    call.can call.goes_on call.refused call.up

pub returns-in-Err : goal.returns-in-Err
returns-in-Err g c =
    let d = g.D.Sectors in
    let call = c.publish_prepare.ensures in
    prepares_by d.sectors d.honest d.history d.faults c.args.self.now _ c.publish_prepare.result c.requires.unbegun refl refl call.same call.begins
    call.can call.goes_on call.refused call.up
