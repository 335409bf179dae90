use Rattle.std.proofs.Common.{inl, ◌+◌, ◌∙◌}
use Rattle.tile_service.specs.Machine.{read}
use Rattle.tile_service.specs.Runs.{Takes}
use Rattle.http_serve.specs.Parts.{read_outcome}
use Rattle.map_replies.specs.Conditions.{ask_of}
use Rattle.map_replies.specs.State.{asked_service, tags_of}
use Rattle.map_replies.proofs.SendingLemmas.{read_on, err_on, sends_more, sends_fails}
use Rattle.map_replies.proofs.service.MapRepliesHandler.read_content.Goals as goal

pub returns-clause-read : goal.returns-clause-read
returns-clause-read g c =
    let d = g.D.Sectors in
    let call = c.read_sent.ensures in
    let now = asked_service c.args.self.now in
    let next = c.read_sent.new.self.service in
    let sending = c.args.self.now.calls.sending in
    read_on c.read_sent.result c.read_sent.new.part
    (λ outcome. Takes d.sectors d.honest d.history now (read (sending.first + c.args.offset) outcome) next) _ _ call.read
    call.unfailed
    (λ takes unfailed old request reply is.
    let more = sends_more d.sectors d.honest d.history d.faults _ _ (ask_of (tags_of old) request) request.body (asked_service old) sending now
    next reply is.0 c.read_sent.new.self.sending c.args.offset _ c.read_sent.new.part call.sending call.length c.requires.within unfailed takes in (
      (more.0, is.1, λ place first held. call.held place first (is.2 place first held), call.oldest ∙ is.3),
      (more.1, is.1, λ place first held. call.held place first (is.2 place first held), inl (call.oldest ∙ is.3)),
    ))

pub returns-clause-unread : goal.returns-clause-unread
returns-clause-unread g c =
    let d = g.D.Sectors in
    err_on c.read_sent.result _ _ c.read_sent.ensures.failed (λ fault failed old request reply is.
    let fails = sends_fails d.sectors d.honest d.history d.faults _ _ (ask_of (tags_of old) request) request.body (asked_service old)
    c.args.self.now.calls.sending (asked_service c.args.self.now) c.read_sent.new.self.service reply is.0
    _ (read_outcome c.read_sent.result c.read_sent.new.part) c.read_sent.ensures.read failed in (
      (fails.0, is.1, λ place first held. c.read_sent.ensures.held place first (is.2 place first held), inl (c.read_sent.ensures.oldest ∙ is.3)),
      fails.1,
    ))
