use Rattle.std.proofs.Common.{◌<◌, ◌≡◌, ◌∙◌, sym, ap, subst, arith}
use Rattle.http_serve.specs.Tags.{tag_text}
use Rattle.http_serve.specs.declared.replies.EntityTag.{EntityTag}
use Rattle.map_replies.specs.Conditions.{ask_view, judged}
use Rattle.map_replies.specs.Parts.{shown_tag, unchanged_reply}
use Rattle.map_replies.proofs.SendingLemmas.{range_asked, other_wanted, is_there, whole_is}
use Rattle.map_replies.proofs.SendingLemmas.{whole_begun}
use Rattle.map_replies.proofs.calls.Calls.archive.Goals as goal

pub returns-in-Ok-Holds-clause-answered : goal.returns-in-Ok-Holds-clause-answered
returns-in-Ok-Holds-clause-answered g c =
    let d = g.D.Sectors in
    let old = c.args.self.now.service in
    let ask = ask_view c.args.ask in
    let some : 0 < old.archive_len = omega (arith, ap (λ (t : EntityTag). t.length) c.archive_tag-tag.ensures, c.if-tag-eq0.false) in
    let holds = ap (λ (t : EntityTag). judged (tag_text t) ask) (sym c.archive_tag-tag.ensures) ∙ sym c.in-Ok-Holds.ensures ∙ c.in-Ok-Holds.field-0-is in
    range_asked d.sectors d.honest d.history d.faults c.args.method ask old c.archive_in.new.self.sending c.archive_in.new.self.service _ _
    c.archive_in.result (c.shown_tag-shown.ensures ∙ ap (shown_tag ask.tags) c.archive_tag-tag.ensures) c.range_for.ensures some holds
    c.archive_in.ensures.answered

pub returns-in-Ok-Fails-clause-answered : goal.returns-in-Ok-Fails-clause-answered
returns-in-Ok-Fails-clause-answered g c =
    let d = g.D.Sectors in
    let old = c.args.self.now.service in
    let ask = ask_view c.args.ask in
    let some : 0 < old.archive_len = omega (arith, ap (λ (t : EntityTag). t.length) c.archive_tag-tag.ensures, c.if-tag-eq0.false) in
    other_wanted d.sectors d.honest d.history d.faults c.args.method ask old c.args.self.now.sending some
    (ap (λ (t : EntityTag). judged (tag_text t) ask) (sym c.archive_tag-tag.ensures) ∙ sym c.in-Ok-Fails.ensures ∙ c.in-Ok-Fails.field-0-is)

pub returns-in-Ok-Unchanged-clause-answered : goal.returns-in-Ok-Unchanged-clause-answered
returns-in-Ok-Unchanged-clause-answered g c =
    let d = g.D.Sectors in
    let old = c.args.self.now.service in
    let ask = ask_view c.args.ask in
    let some : 0 < old.archive_len = omega (arith, ap (λ (t : EntityTag). t.length) c.archive_tag-tag.ensures, c.if-tag-eq0.false) in
    whole_is _ _ c.unchanged.result c.unchanged.ensures.writable
    (is_there d.sectors d.honest d.history d.faults c.args.method ask old c.args.self.now.sending some _
    (ap (λ (t : EntityTag). judged (tag_text t) ask) (sym c.archive_tag-tag.ensures) ∙ sym c.in-Ok-Unchanged.ensures ∙ c.in-Ok-Unchanged.field-0-is)
    (c.unchanged.ensures.reply ∙ ap unchanged_reply (c.shown_tag-shown.ensures ∙ ap (shown_tag ask.tags) c.archive_tag-tag.ensures)))

pub returns-in-Ok-Holds-clause-some : goal.returns-in-Ok-Holds-clause-some
returns-in-Ok-Holds-clause-some g c = λ whole. c.archive_in.ensures.some (c.is_head.ensures whole)

pub returns-in-Ok-Fails-clause-some : goal.returns-in-Ok-Fails-clause-some
returns-in-Ok-Fails-clause-some g c = λ whole. tt

pub returns-in-Ok-Unchanged-clause-some : goal.returns-in-Ok-Unchanged-clause-some
returns-in-Ok-Unchanged-clause-some g c = λ whole. whole_begun c.unchanged.result c.unchanged.ensures.writable
