use Rattle.std.proofs.Common.{◌≡◌, [], false, inl, refl, sym, ◌∙◌}
use Rattle.http_serve.proofs.PartLemmas.{in_parts}
use Rattle.map_replies.specs.Preparing.{is_to_publish}
use Rattle.map_replies.proofs.preparing.PreparingRepliesHandler.answer.Goals as goal

pub answer_publishing-requires-clause-calls : goal.answer_publishing-requires-clause-calls
answer_publishing-requires-clause-calls g c = sym c.is_to_publish.ensures ∙ c.if-is_to_publish.true

pub returns-else-is_to_publish-clause-replied : goal.returns-else-is_to_publish-clause-replied
returns-else-is_to_publish-clause-replied g c =
    let other : is_to_publish c.args.self.now.replies c.args.request.now ≡ false = sym c.is_to_publish.ensures ∙ c.if-is_to_publish.false in
    let told = c.answer_at.ensures.replied in (
      told.0,
      told.1,
      inl ([], c.args.self.now.replies, inl (refl, refl, refl, other), told.2),
      in_parts c.answer_at.result.content _ _ (λ sent. ((other, sent.0, refl), sent.1)) told.3,
    )
