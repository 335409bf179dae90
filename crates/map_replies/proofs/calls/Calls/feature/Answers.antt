use Rattle.std.proofs.Common.{[], ◌∷◌, None, Some, refl}
use Rattle.edit_text.specs.Views.{feature_view}
use Rattle.tile_service.specs.Machine.{got, no_memory, look}
use Rattle.tile_service.proofs.Runs.Callers.{look_step}
use Rattle.map_replies.proofs.Answering.{looked}
use Rattle.map_replies.proofs.calls.Calls.feature.Goals as goal

pub returns-in-Some-clause-answered : goal.returns-in-Some-clause-answered
returns-in-Some-clause-answered g c =
    let d = g.D.Sectors in
    let old = c.args.self.now.service in
    let f = feature_view c.in-Some.feature in
    looked d.sectors d.honest d.history c.args.id old old f c.feature_value.result
    c.feature_value.ensures.reply c.feature_value.ensures.reads c.feature_value.ensures.fault
    (look_step d.sectors d.honest d.history old c.args.id (got (Some f)) c.in-Some.ensures.found)
    (look_step d.sectors d.honest d.history old c.args.id no_memory tt)

pub returns-in-None-clause-answered : goal.returns-in-None-clause-answered
returns-in-None-clause-answered g c =
    let d = g.D.Sectors in
    let old = c.args.self.now.service in (
      look c.args.id (got None) ∷ [],
      (got None, refl, refl, tt),
      (old, look_step d.sectors d.honest d.history old c.args.id (got None) c.in-None.ensures.found, refl),
    )
