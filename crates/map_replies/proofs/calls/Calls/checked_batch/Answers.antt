use Rattle.std.proofs.Common.{map}
use Rattle.feature_model.specs.Data.{change_data}
use Rattle.feature_model.specs.Seen.{seen_data}
use Rattle.map_replies.specs.Bodies.{CheckedEdit, SaysChecked, HasCheckedFault}
use Rattle.map_replies.specs.Meanings.{MeansChecked, DiskFailed}
use Rattle.map_replies.proofs.Answering.{body_said}
use Rattle.map_replies.proofs.calls.Calls.checked_batch.Goals as goal

pub returns-clause-answered : goal.returns-clause-answered
returns-clause-answered g c =
    let d = g.D.Sectors in
    let old = c.args.self.now.service in
    let new = c.make_checked.new.self.service in
    let body = c.args.body.now in
    let e : CheckedEdit = record { changes = map change_data c.in-Ok.found.0.items; seen = map seen_data c.in-Ok.found.1.items } in
    body_said d.sectors d.honest d.history (SaysChecked body) (HasCheckedFault body)
    (MeansChecked (DiskFailed d.faults old new) old.version) e old new _ c.in-Ok.ensures.found
    (rw c.deref.ensures.value at c.make_checked.ensures.answered)
