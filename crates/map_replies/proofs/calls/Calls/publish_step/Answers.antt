use Rattle.tile_service.specs.Machine.{step}
use Rattle.tile_service.proofs.Runs.Callers.{step_step}
use Rattle.map_replies.specs.Words.{left_reply}
use Rattle.map_replies.proofs.Answering.{changed_first}
use Rattle.std.proofs.Common.{ℕ, ap, sym, subst, ◌∙◌}
use Rattle.tile_service.specs.Tickets.{IsHeld}
use Rattle.map_replies.specs.Tickets.{oldest_after}
use Rattle.map_replies.proofs.TicketLemmas.{held_stepped}
use Rattle.map_replies.proofs.OldestLemmas.{stepped_oldest, breaks_at_step}
use Rattle.tile_service.proofs.Archive.Tickets.{held_step, takes_rises}
use Rattle.map_replies.proofs.calls.Calls.publish_step.Goals as goal

pub returns-clause-answered : goal.returns-clause-answered
returns-clause-answered g c =
    let d = g.D.Sectors in
    let call = c.publish_step-outcome.ensures in
    changed_first d.sectors d.honest d.history _ _ step left_reply _ _ c.publish_step-outcome.result _ c.left.ensures.reply
    call.failed
    (step_step d.sectors d.honest d.history _ _ c.publish_step-outcome.result call.machine call.size call.touched call.drafting
    call.disk call.refused call.any_moment call.after call.archive call.edits)

pub returns-clause-held : goal.returns-clause-held
returns-clause-held g c =
    let d = g.D.Sectors in
    let call = c.publish_step-outcome.ensures in
    let old = c.args.self.now.service in
    let takes = step_step d.sectors d.honest d.history old _ c.publish_step-outcome.result call.machine call.size call.touched call.drafting
    call.disk call.refused call.any_moment call.after call.archive call.edits in
    λ place first held. subst (λ (n : ℕ). IsHeld d.honest d.history place first n c.publish_step-outcome.new.self)
    (sym (c.oldest_after-self.ensures
    ∙ ap (λ p. oldest_after c.publish_step-outcome.result c.args.self.now.oldest p.generation) c.archive-generation.ensures.is))
    (held_stepped d.sectors d.honest d.history c.publish_step-outcome.result place first c.args.self.now.oldest old _ call.refused
    (held_step d.sectors d.honest d.history place first c.args.self.now.oldest old held _ call.size
    (takes_rises d.sectors d.honest d.history old _ (step c.publish_step-outcome.result) takes) call.disk.was_honest call.area) held)

pub returns-clause-oldest : goal.returns-clause-oldest
returns-clause-oldest g c =
    let call = c.publish_step-outcome.ensures in
    stepped_oldest c.publish_step-outcome.result c.left.result c.args.self.now
    (record c.args.self.now { service = c.publish_step-outcome.new.self; oldest = c.oldest_after-self.result }) c.left.ensures.reply
    (c.oldest_after-self.ensures
    ∙ ap (λ p. oldest_after c.publish_step-outcome.result c.args.self.now.oldest p.generation) c.archive-generation.ensures.is)
    (λ device. breaks_at_step c.args.self.now.service c.publish_step-outcome.new.self c.publish_step-outcome.result device call.machine)
