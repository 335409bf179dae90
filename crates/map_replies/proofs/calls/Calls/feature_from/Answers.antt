use Rattle.std.proofs.Common.{Some, None, refl}
use Rattle.edit_text.specs.Views.{feature_view}
use Rattle.tile_service.specs.Machine.{got, no_memory, look_from}
use Rattle.tile_service.proofs.Runs.Callers.{look_from_step}
use Rattle.map_replies.specs.Words.{shown_reply, numbered_reply}
use Rattle.map_replies.proofs.Answering.{called, shown}
use Rattle.map_replies.proofs.calls.Calls.feature_from.Goals as goal

pub returns-in-Some-clause-answered : goal.returns-in-Some-clause-answered
returns-in-Some-clause-answered g c =
    let d = g.D.Sectors in
    let old = c.args.self.now.service in
    let f = Some (c.in-Some.number, feature_view c.in-Some.feature) in
    shown d.sectors d.honest d.history (look_from c.args.id) numbered_reply old old f c.numbered_value.result
    c.numbered_value.ensures.reply c.numbered_value.ensures.fault
    (look_from_step d.sectors d.honest d.history old c.args.id (got f) c.in-Some.ensures.found)
    (look_from_step d.sectors d.honest d.history old c.args.id no_memory tt)

pub returns-in-None-clause-answered : goal.returns-in-None-clause-answered
returns-in-None-clause-answered g c =
    let d = g.D.Sectors in
    let old = c.args.self.now.service in
    called d.sectors d.honest d.history (look_from c.args.id) (shown_reply numbered_reply) old old (got None) _ refl
    (look_from_step d.sectors d.honest d.history old c.args.id (got None) c.in-None.ensures.found)
