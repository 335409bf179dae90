use Rattle.std.proofs.Common.{inl, inr, refl, sym, ◌∙◌}
use Rattle.map_replies.proofs.preparing.PreparingRepliesPrepares.prepare.Goals as goal

pub returns-then-is_to_publish-clause-prepared : goal.returns-then-is_to_publish-clause-prepared
returns-then-is_to_publish-clause-prepared g c = inl (sym c.is_to_publish.ensures ∙ c.if-is_to_publish.true, c.prepare_call.ensures)

pub returns-in-Some-clause-prepared : goal.returns-in-Some-clause-prepared
returns-in-Some-clause-prepared g c = inr (sym c.is_to_publish.ensures ∙ c.if-is_to_publish.false, inl (refl, refl))

pub returns-clause-prepared : goal.returns-clause-prepared
returns-clause-prepared g c = inr (sym c.is_to_publish.ensures ∙ c.if-is_to_publish.false, c.prepare_other.ensures)
