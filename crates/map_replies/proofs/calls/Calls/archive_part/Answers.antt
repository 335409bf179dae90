use Rattle.std.proofs.Common.{◌∙◌, ℕ, sym, ap, subst, arith}
use Rattle.http_serve.specs.Reply.{content_bytes}
use Rattle.map_replies.specs.declared.parts.ArchiveRange.TheVariants.{Between}
use Rattle.map_replies.specs.Parts.{part_reply}
use Rattle.map_replies.proofs.SendingLemmas.{part_sent, part_failed}
use Rattle.map_replies.specs.Sending.{IsBegun}
use Rattle.map_replies.proofs.SendingLemmas.{whole_begun}
use Rattle.map_replies.proofs.calls.Calls.archive_part.Goals as goal

pub returns-in-Ok-Some-clause-answered : goal.returns-in-Ok-Some-clause-answered
returns-in-Ok-Some-clause-answered g c =
    let d = g.D.Sectors in
    let begun = rw c.in-Ok-Some.field-0-is at c.in-Ok-Some.ensures.begun in
    let sending = rw c.in-Ok-Some.field-0-is at c.in-Ok-Some.ensures.sending in
    let part = Between c.args.first c.args.last in
    let unfailed = rw c.in-Ok-Some.field-0-is at c.in-Ok-Some.ensures.unfailed in
    part_sent d.sectors d.honest d.history d.faults c.args.tag c.args.self.now.service c.send.new.self.service part _ c.between.result
    c.in-Ok-Some.content (c.requires.order, omega (arith, c.requires.within, c.requires.total)) begun unfailed c.between.ensures.content
    (λ bytes. c.between.ensures.reply bytes
    ∙ ap (λ (n : ℕ). part_reply part n c.args.tag (content_bytes bytes c.in-Ok-Some.content)) c.requires.total)
    sending

pub returns-in-Ok-None-clause-answered : goal.returns-in-Ok-None-clause-answered
returns-in-Ok-None-clause-answered g c =
    let d = g.D.Sectors in
    part_failed d.sectors d.honest d.history d.faults c.args.tag c.args.self.now.service c.send.new.self.service
    (Between c.args.first c.args.last) _ c.unread.result (c.requires.order, omega (arith, c.requires.within, c.requires.total))
    c.unread.ensures.writable c.unread.ensures.reply
    (c.in-Ok-None.ensures.failed c.in-Ok-None.field-0-is) (rw c.in-Ok-None.field-0-is at c.in-Ok-None.ensures.begun)

pub returns-in-Ok-Some-clause-some : goal.returns-in-Ok-Some-clause-some
returns-in-Ok-Some-clause-some g c =
    λ whole. subst IsBegun (sym c.between.ensures.content) ((rw c.in-Ok-Some.field-0-is at c.in-Ok-Some.ensures.some) whole)

pub returns-in-Ok-None-clause-some : goal.returns-in-Ok-None-clause-some
returns-in-Ok-None-clause-some g c = λ whole. whole_begun c.unread.result c.unread.ensures.writable

pub returns-in-Err-clause-some : goal.returns-in-Err-clause-some
returns-in-Err-clause-some g c = λ whole. tt
