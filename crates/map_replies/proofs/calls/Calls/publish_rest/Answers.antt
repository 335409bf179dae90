use Rattle.std.proofs.Common.{ℕ, refl, ap, sym, subst, ◌∙◌}
use Rattle.tile_service.specs.Tickets.{IsHeld}
use Rattle.map_replies.specs.Tickets.{oldest_after}
use Rattle.map_replies.proofs.TicketLemmas.{held_stepped}
use Rattle.tile_service.proofs.Archive.Tickets.{held_step, run_rises}
use Rattle.map_replies.proofs.calls.Calls.publish_rest.Goals as goal

pub returns : goal.returns
returns g c =
    let d = g.D.Sectors in
    let call = c.publish_rest-outcome.ensures in
    let old = c.args.self.now.service in
    let oldest = c.oldest_after-self.ensures
    ∙ ap (λ p. oldest_after c.publish_rest-outcome.result c.args.self.now.oldest p.generation) c.archive-generation.ensures.is in
    record {
      takes = call.run;
      failed = call.failed;
      held = λ place first held. subst (λ (n : ℕ). IsHeld d.honest d.history place first n c.publish_rest-outcome.new.self) (sym oldest)
          (held_stepped d.sectors d.honest d.history c.publish_rest-outcome.result place first c.args.self.now.oldest old _ call.refused
          (held_step d.sectors d.honest d.history place first c.args.self.now.oldest old held _ call.size
          (run_rises d.sectors d.honest d.history old _ _ call.run.run) call.disk.was_honest call.area) held);
      same = ap (λ (n : ℕ). record c.args.self.now { service = c.publish_rest-outcome.new.self; oldest = n }) oldest;
    }
