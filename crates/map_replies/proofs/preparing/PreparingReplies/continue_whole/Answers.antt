use Rattle.std.proofs.Common.{Ok, Err, inl, inr, refl, sym, ◌∙◌}
use Rattle.map_replies.proofs.ReadyLemmas.{prepares_nothing}
use Rattle.map_replies.proofs.preparing.PreparingReplies.continue_whole.Goals as goal

pub returns-then-not-has_begun : goal.returns-then-not-has_begun
returns-then-not-has_begun g c =
    let d = g.D.Sectors in
    prepares_nothing d.sectors d.honest d.history d.faults c.args.self.now _ refl refl

pub returns-then-not-has_more_steps : goal.returns-then-not-has_more_steps
returns-then-not-has_more_steps g c =
    let d = g.D.Sectors in
    prepares_nothing d.sectors d.honest d.history d.faults c.args.self.now _ refl refl

pub returns-in-Ok : goal.returns-in-Ok
returns-in-Ok g c = inr (inr (inl (Ok c.in-Ok.field-0, (sym c.has_begun.ensures ∙ c.if-not-has_begun.false, refl, refl, c.in-Ok.ensures))))

pub returns-in-Err : goal.returns-in-Err
returns-in-Err g c = inr (inr (inl (Err c.in-Err.field-0, (sym c.has_begun.ensures ∙ c.if-not-has_begun.false, refl, refl, c.in-Err.ensures))))
