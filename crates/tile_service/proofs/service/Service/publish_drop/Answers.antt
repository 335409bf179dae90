use Rattle.tile_service.specs.Service.{drafted_by}
use Rattle.tile_service.proofs.Publications.Drafts.{gone_drafting, up_gone}
use Rattle.tile_service.proofs.service.Service.publish_drop.Goals as goal

pub returns-clause-up : goal.returns-clause-up
returns-clause-up g c = rw (← c.self.view_is)
    (λ stored up. up_gone _ _ stored _ up (drafted_by c.take-moment.new.self c.take-draft.new.self)
    (gone_drafting c.take-moment.new.self c.take-draft.new.self c.take-draft.ensures.after))
