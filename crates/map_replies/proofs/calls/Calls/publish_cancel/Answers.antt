use Rattle.tile_service.specs.Machine.{cancel}
use Rattle.tile_service.proofs.Runs.Callers.{cancel_step}
use Rattle.map_replies.specs.Words.{cancel_reply}
use Rattle.map_replies.proofs.Answering.{called_first}
use Rattle.map_replies.proofs.TicketLemmas.{held_unasked}
use Rattle.std.proofs.Common.{ap}
use Rattle.map_replies.proofs.calls.Calls.publish_cancel.Goals as goal

pub returns-clause-answered : goal.returns-clause-answered
returns-clause-answered g c =
    let d = g.D.Sectors in
    let call = c.publish_cancel-outcome.ensures in
    called_first d.sectors d.honest d.history cancel cancel_reply _ _ c.publish_cancel-outcome.result _ c.cancelled.ensures.reply
    (cancel_step d.sectors d.honest d.history _ _ c.publish_cancel-outcome.result call.machine call.same call.up)

pub returns-clause-held : goal.returns-clause-held
returns-clause-held g c =
    let d = g.D.Sectors in
    λ place first held. held_unasked d.sectors d.honest d.history place first c.args.self.now.oldest c.args.self.now.service _ held
    (ap (λ s. s.disk) c.publish_cancel-outcome.ensures.same) (ap (λ s. s.size) c.publish_cancel-outcome.ensures.same)
    (ap (λ s. s.generation) c.publish_cancel-outcome.ensures.same)
