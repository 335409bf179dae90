use Rattle.map_replies.proofs.Answering.{published}
use Rattle.std.proofs.Common.{ℕ, ap, sym, subst, ◌∙◌}
use Rattle.tile_service.specs.Tickets.{IsHeld}
use Rattle.map_replies.specs.Tickets.{oldest_after}
use Rattle.map_replies.proofs.TicketLemmas.{held_stepped}
use Rattle.map_replies.proofs.OldestLemmas.{published_oldest, breaks_in_run}
use Rattle.tile_service.proofs.Archive.Tickets.{held_step, run_rises}
use Rattle.map_replies.proofs.calls.Calls.publish.Goals as goal

pub returns-clause-answered : goal.returns-clause-answered
returns-clause-answered g c =
    let d = g.D.Sectors in
    published d.sectors d.honest d.history _ _ _ _ c.publish-outcome.result _ c.published.ensures.reply
    c.publish-outcome.ensures.failed c.publish-outcome.ensures.run

pub returns-clause-held : goal.returns-clause-held
returns-clause-held g c =
    let d = g.D.Sectors in
    let call = c.publish-outcome.ensures in
    let old = c.args.self.now.service in
    λ place first held. subst (λ (n : ℕ). IsHeld d.honest d.history place first n c.publish-outcome.new.self)
    (sym (c.oldest_after-self.ensures
    ∙ ap (λ p. oldest_after c.publish-outcome.result c.args.self.now.oldest p.generation) c.archive-generation.ensures.is))
    (held_stepped d.sectors d.honest d.history c.publish-outcome.result place first c.args.self.now.oldest old _ call.refused
    (held_step d.sectors d.honest d.history place first c.args.self.now.oldest old held _ call.size
    (run_rises d.sectors d.honest d.history old _ _ call.run.run) call.disk.was_honest call.area) held)

pub returns-clause-oldest : goal.returns-clause-oldest
returns-clause-oldest g c =
    let d = g.D.Sectors in
    let call = c.publish-outcome.ensures in
    published_oldest c.publish-outcome.result c.published.result c.args.self.now
    (record c.args.self.now { service = c.publish-outcome.new.self; oldest = c.oldest_after-self.result }) c.published.ensures.reply
    (c.oldest_after-self.ensures
    ∙ ap (λ p. oldest_after c.publish-outcome.result c.args.self.now.oldest p.generation) c.archive-generation.ensures.is)
    (λ device. breaks_in_run d.sectors d.honest d.history c.args.self.now.service c.publish-outcome.new.self c.publish-outcome.result device call.run)
