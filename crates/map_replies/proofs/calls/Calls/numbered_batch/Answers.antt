use Rattle.std.proofs.Common.{map}
use Rattle.feature_model.specs.Data.{EditData, change_data}
use Rattle.tile_service.specs.Service.{status_of}
use Rattle.map_replies.specs.Bodies.{SaysChanges, HasBatchFault}
use Rattle.map_replies.specs.Meanings.{MeansNumbered, DiskFailed}
use Rattle.map_replies.proofs.Answering.{body_said}
use Rattle.map_replies.proofs.calls.Calls.numbered_batch.Goals as goal

pub returns-clause-answered : goal.returns-clause-answered
returns-clause-answered g c =
    let d = g.D.Sectors in
    let old = c.args.self.now.service in
    let new = c.make_numbered.new.self.service in
    let body = c.args.body.now in
    let cs : EditData = map change_data c.in-Ok.changes.items in
    body_said d.sectors d.honest d.history (SaysChanges body) (HasBatchFault body)
    (MeansNumbered (DiskFailed d.faults old new) (status_of old) c.args.query.now c.args.number) cs old new _ c.in-Ok.ensures.found
    c.make_numbered.ensures.answered
