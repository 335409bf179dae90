use Rattle.std.proofs.Common.{map}
use Rattle.feature_model.specs.Data.{change_data}
use Rattle.feature_model.specs.Seen.{seen_data}
use Rattle.tile_service.specs.Machine.{batched}
use Rattle.tile_service.proofs.Runs.Callers.{edit_step}
use Rattle.map_replies.proofs.CheckedEdits.{told_changed, made_unchanged}
use Rattle.tile_service.proofs.Archive.Tickets.{held_edit}
use Rattle.map_replies.proofs.calls.Calls.make_checked.Goals as goal

pub returns-in-Some-clause-answered : goal.returns-in-Some-clause-answered
returns-in-Some-clause-answered g c =
    let d = g.D.Sectors in
    told_changed d.sectors d.honest d.history _ _
    (record { changes = map change_data c.args.changes.items; seen = map seen_data c.args.all.now }) c.in-Some.id _ _
    c.changed.ensures.reply c.in-Some.ensures

pub returns-clause-answered : goal.returns-clause-answered
returns-clause-answered g c =
    let d = g.D.Sectors in
    let call = c.batch-outcome.ensures in
    made_unchanged d.sectors d.honest d.history _ _ _
    (record { changes = map change_data c.args.changes.items; seen = map seen_data c.args.all.now }) _ _
    c.batch-outcome.result _ c.outcome.ensures.reply c.in_default.ensures call.takes.failed
    (edit_step d.sectors d.honest d.history d.faults _ _ batched _ c.batch-outcome.result call.machine call.takes)

pub returns-clause-held : goal.returns-clause-held
returns-clause-held g c =
    let d = g.D.Sectors in
    λ place first held. held_edit d.sectors d.honest d.history place first c.args.self.now.oldest c.args.self.now.service held d.faults _ _ _ _
    c.batch-outcome.ensures.takes
