use Rattle.std.proofs.Common.{sym, ◌∙◌}
use Rattle.tile_service.proofs.Publications.Drafts.{service_drafting}
use Rattle.tile_service.proofs.service.Service.advance_draft.Goals as goal

pub invariant_of-self : goal.invariant_of-self
invariant_of-self g c = rw c.replace-before.ensures.after (service_drafting c.in-Some.draft c.added_by.result c.next_stage-stage.result
    (sym c.take.ensures.value ∙ c.in-Some.is) c.next_stage-stage.ensures c.added_by.ensures c.self.invariant)
