use Rattle.std.proofs.Common.{inl, inr, refl, sym, ◌∙◌}
use Rattle.map_replies.proofs.preparing.PreparingReplies.give_up.Goals as goal

pub returns-then-has_begun-clause-gives_up : goal.returns-then-has_begun-clause-gives_up
returns-then-has_begun-clause-gives_up g c =
    (refl, inr (c.cancel_begun-cancelled.result, sym c.has_begun.ensures ∙ c.if-has_begun.true, refl, c.cancel_begun-cancelled.ensures))

pub returns-clause-gives_up : goal.returns-clause-gives_up
returns-clause-gives_up g c = (refl, inl (sym c.has_begun.ensures ∙ c.if-has_begun.false, refl))
