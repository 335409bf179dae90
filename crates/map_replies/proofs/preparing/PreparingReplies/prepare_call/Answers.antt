use Rattle.std.proofs.Common.{subst}
use Rattle.map_replies.specs.Preparing.{Prepares}
use Rattle.map_replies.proofs.ReadyLemmas.{prepares_at}
use Rattle.map_replies.proofs.preparing.PreparingReplies.prepare_call.Goals as goal

pub returns-in-Some : goal.returns-in-Some
returns-in-Some g c =
    let d = g.D.Sectors in
    prepares_at d.sectors d.honest d.history d.faults c.args.self.now _ c.args.self.now.turns c.is_prepared-self.result c.waits_for_another.ensures.prepares

pub returns-in-None : goal.returns-in-None
returns-in-None g c =
    let d = g.D.Sectors in
    prepares_at d.sectors d.honest d.history d.faults c.args.self.now _ c.args.self.now.turns c.is_prepared-self.result
    (subst (λ s. Prepares d.sectors d.honest d.history d.faults s c.prepare_own.new.self) (c.waits_for_another.ensures.stays c.in-None.is)
    c.prepare_own.ensures)
