use Rattle.std.proofs.Common.{◌≡◌, ◌⊎◌, [], length, inl, inr, refl, sym, ap, ◌∙◌}
use Rattle.http_serve.specs.Reply.{ReplyView, reply_view}
use Rattle.http_serve.proofs.HandlerLemmas.{none_in_parts, whole_reply}
use Rattle.http_serve.proofs.PartLemmas.{in_parts}
use Rattle.map_replies.specs.Confirming.{ConfirmedReplied, ConfirmedSends, is_to_edit}
use Rattle.map_replies.specs.Preparing.{PreparingSends, inner_size}
use Rattle.map_replies.proofs.ConfirmedLemmas.{both_true, may_answer, shown_so}
use Rattle.map_replies.proofs.confirming.ConfirmedRepliesHandler.answer.Goals as goal

pub returns-then-refuses-clause-replied : goal.returns-then-refuses-clause-replied
returns-then-refuses-clause-replied g c =
    let old = c.args.self.now in
    let both = both_true old.standbys.away (is_to_edit old.inner.replies c.args.request.now) (sym c.refuses.ensures ∙ c.if-refuses.true) in
    let none = c.no_standby.ensures.writable.1 in (
      reply_view [] c.no_standby.result,
      whole_reply c.no_standby.result none,
      inl (record { away = both.0; edits = both.1; is = c.no_standby.ensures.reply; same = refl; confirmed = refl; made = refl }),
      none_in_parts c.no_standby.result.content _ none,
    )

pub returns-then-is_status-clause-replied : goal.returns-then-is_status-clause-replied
returns-then-is_status-clause-replied g c =
    let d = g.D.Sectors in
    let old = c.args.self.now in
    let request = c.args.request.now in
    let new = c.answer_kept-reply.new.self in
    let may = may_answer old.standbys.away (is_to_edit old.inner.replies request) (sym c.refuses.ensures ∙ c.if-refuses.false) in
    let told = c.answer_kept-reply.ensures.replied in
    let keeps = c.answer_kept-reply.ensures.keeps in
    let status = sym c.target-target.ensures ∙ c.is_status.ensures c.if-is_status.true in
    shown_so _ _ c.answer_kept-reply.result c.with_standbys.result told.0
    (λ (v : ReplyView). ConfirmedReplied d.sectors d.honest d.history d.faults old request v new)
    (λ (v : ReplyView). ConfirmedSends d.sectors d.honest d.history d.faults old request v new × (inner_size new.inner ≡ length v.content))
    c.with_standbys.ensures told.1
    (in_parts c.answer_kept-reply.result.content _ _ (λ sent. ((may, sent.0, keeps), sent.1)) told.3)
    (λ shown says. inr (told.0, may, told.2, keeps, elim says [ inl same ↦ inl same | inr more ↦ inr (status, _, more) ]))

pub returns-clause-replied : goal.returns-clause-replied
returns-clause-replied g c =
    let old = c.args.self.now in
    let may = may_answer old.standbys.away (is_to_edit old.inner.replies c.args.request.now) (sym c.refuses.ensures ∙ c.if-refuses.false) in
    let told = c.answer_kept-reply.ensures.replied in
    let keeps = c.answer_kept-reply.ensures.keeps in (
      told.0,
      told.1,
      inr (told.0, may, told.2, keeps, inl refl),
      in_parts c.answer_kept-reply.result.content _ _ (λ sent. ((may, sent.0, keeps), sent.1)) told.3,
    )
