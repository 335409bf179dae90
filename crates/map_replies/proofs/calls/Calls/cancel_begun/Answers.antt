use Rattle.std.proofs.Common.{ap}
use Rattle.tile_service.proofs.Runs.Callers.{cancel_step}
use Rattle.map_replies.proofs.TicketLemmas.{held_unasked}
use Rattle.map_replies.proofs.calls.Calls.cancel_begun.Goals as goal

pub returns : goal.returns
returns g c =
    let d = g.D.Sectors in
    let call = c.publish_cancel.ensures in
    let old = c.args.self.now in
    record {
      takes = cancel_step d.sectors d.honest d.history old.service c.publish_cancel.new.self c.publish_cancel.result call.machine call.same call.up;
      held = λ place first held. held_unasked d.sectors d.honest d.history place first old.oldest old.service _ held
          (ap (λ s. s.disk) call.same) (ap (λ s. s.size) call.same) (ap (λ s. s.generation) call.same);
      same = ap (λ s. record old { service = s }) call.same;
    }
