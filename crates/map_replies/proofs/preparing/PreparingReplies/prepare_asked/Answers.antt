use Rattle.std.proofs.Common.{inl, inr, subst}
use Rattle.map_replies.specs.Preparing.{PreparesTile}
use Rattle.map_replies.proofs.preparing.PreparingReplies.prepare_asked.Goals as goal

pub returns-in-Some : goal.returns-in-Some
returns-in-Some g c = inl (c.prepare_made.ensures.same, c.prepare_made.ensures.whole)

pub returns-in-None : goal.returns-in-None
returns-in-None g c =
    let d = g.D.Sectors in
    subst (λ s. PreparesTile d.sectors d.honest d.history d.faults s c.prepare_read.new.self) (c.prepare_made.ensures.stays c.in-None.is)
    (inr c.prepare_read.ensures)
