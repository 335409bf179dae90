use Rattle.std.proofs.Common.{ap, refl, subst, sym, ◌∙◌}
use Rattle.tile_service.specs.Machine.{got, no_memory, metadata}
use Rattle.tile_service.specs.Runs.{Takes}
use Rattle.tile_service.proofs.Runs.Callers.{metadata_step}
use Rattle.tile_service.specs.Tickets.{IsHeld}
use Rattle.map_replies.specs.Words.{json_reply, shown_reply, metadata_reply}
use Rattle.map_replies.proofs.Answering.{called}
use Rattle.map_replies.proofs.calls.Calls.metadata.Goals as goal

pub returns-in-Ok-clause-answered : goal.returns-in-Ok-clause-answered
returns-in-Ok-clause-answered g c =
    let d = g.D.Sectors in
    let old = c.args.self.now.service in
    let told = c.in-Ok.ensures.metadata in
    called d.sectors d.honest d.history metadata (shown_reply metadata_reply) old _ (got told.0) _
    (c.shared_json.ensures.reply ∙ ap json_reply told.2)
    (subst (λ s. Takes d.sectors d.honest d.history old (metadata (got told.0)) s) (sym c.metadata.ensures.same)
    (metadata_step d.sectors d.honest d.history old (got told.0) told.1))

pub returns-in-Err-clause-answered : goal.returns-in-Err-clause-answered
returns-in-Err-clause-answered g c =
    let d = g.D.Sectors in
    let old = c.args.self.now.service in
    called d.sectors d.honest d.history metadata (shown_reply metadata_reply) old _ no_memory _ refl
    (subst (λ s. Takes d.sectors d.honest d.history old (metadata no_memory) s) (sym c.metadata.ensures.same)
    (metadata_step d.sectors d.honest d.history old no_memory tt))

pub returns-in-Ok-clause-held : goal.returns-in-Ok-clause-held
returns-in-Ok-clause-held g c =
    let d = g.D.Sectors in
    λ place first held. subst (λ s. IsHeld d.honest d.history place first c.args.self.now.oldest s) (sym c.metadata.ensures.same) held

pub returns-in-Err-clause-held : goal.returns-in-Err-clause-held
returns-in-Err-clause-held g c =
    let d = g.D.Sectors in
    λ place first held. subst (λ s. IsHeld d.honest d.history place first c.args.self.now.oldest s) (sym c.metadata.ensures.same) held
