use Rattle.std.proofs.Common.{ℕ, ap, sym, subst, ◌∙◌}
use Rattle.tile_service.specs.Tickets.{IsHeld}
use Rattle.tile_service.proofs.Runs.Callers.{step_step}
use Rattle.tile_service.proofs.Archive.Tickets.{held_step, takes_rises}
use Rattle.tile_service.specs.Machine.{step}
use Rattle.map_replies.specs.Tickets.{oldest_after}
use Rattle.map_replies.proofs.TicketLemmas.{held_stepped}
use Rattle.map_replies.proofs.WholeSteps.{leaves_something}
use Rattle.map_replies.proofs.calls.Calls.step_begun.Goals as goal

pub returns : goal.returns
returns g c =
    let d = g.D.Sectors in
    let call = c.publish_step-outcome.ensures in
    let outcome = c.publish_step-outcome.result in
    let old = c.args.self.now.service in
    let new = c.publish_step-outcome.new.self in
    let oldest = c.oldest_after-self.ensures
    ∙ ap (λ p. oldest_after outcome c.args.self.now.oldest p.generation) c.archive-generation.ensures.is in
    let takes = step_step d.sectors d.honest d.history old new outcome call.machine call.size call.touched call.drafting
    call.disk call.refused call.any_moment call.after call.archive call.edits in
    record {
      takes = takes;
      unfinished = leaves_something old new outcome c.requires.more call.machine;
      failed = call.failed;
      held = λ place first held. subst (λ (n : ℕ). IsHeld d.honest d.history place first n new) (sym oldest)
          (held_stepped d.sectors d.honest d.history outcome place first c.args.self.now.oldest old _ call.refused
          (held_step d.sectors d.honest d.history place first c.args.self.now.oldest old held _ call.size
          (takes_rises d.sectors d.honest d.history old _ (step outcome) takes) call.disk.was_honest call.area) held);
      same = ap (λ (n : ℕ). record c.args.self.now { service = new; oldest = n }) oldest;
    }
