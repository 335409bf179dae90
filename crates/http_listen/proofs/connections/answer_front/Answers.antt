use Rattle.std.proofs.Common.{◌≡◌, [], None, Some, refl, ap, subst, ◌∙◌, take, drop}
use Rattle.std.specs.Prelude.{is_some}
use Rattle.http_listen.specs.declared.peers.State.{State}
use Rattle.http_serve.specs.Connections.{ConnectionView}
use Rattle.http_listen.specs.Conversations.{answered}
use Rattle.http_listen.specs.Courses.{Course, Settles, course_of}
use Rattle.http_listen.specs.Rests.{once_sent, rest_after}
use Rattle.http_listen.specs.Talks.{Moves}
use Rattle.http_listen.proofs.AskedLemmas.{asked_due, asked_one}
use Rattle.http_listen.proofs.HoldLemmas.{waits_either}
use Rattle.http_listen.proofs.StepLemmas.{course_is, steps_answered}
use Rattle.http_listen.proofs.connections.answer_front.Goals as goal

pub returns-clause-acts : goal.returns-clause-acts
returns-clause-acts g c =
    let told = g.S.Talks.told in
    let old = c.args.peer.now in
    let front = c.serve_front-outcome.new.peer in
    let new = c.send_replies-ending.new.self in
    let outcome = c.serve_front-outcome.result in
    let made = c.serve_front-outcome.ensures in
    let stands = c.answered.ensures.keeps in
    let sent = c.send_replies-ending.ensures in
    let ticket = g.H.Downloads.ticket_of c.serve_front-outcome.new.handler in
    let then : Moves (told front.stream) front.connection.output [] [] (told new.stream) new.connection.output =
    rw (← stands.stream, ← stands.output) sent.moves in
    let course : course_of c.answered.new.self ≡ record { left = rest_after ticket outcome; outcome = Some (once_sent outcome); requests = old.state.requests } =
    course_is (stands.unsent ∙ made.unsent) c.answered.ensures.outcome (c.answered.ensures.requests ∙ ap (λ (s : State). s.requests) made.state) in (
      answered (take c.args.asked.end old.connection.input) front.connection.output outcome ticket,
      (rw c.begin.ensures at made.answers, refl, asked_one old.connection.input c.args.pool.now.fields c.args.asked c.requires.asked.0),
      steps_answered told old front new c.args.asked.end outcome ticket (c.send_replies-ending.result ≡ None) c.requires.sent c.requires.whole
          c.requires.settled made.stream then
          (sent.beside.input ∙ stands.input ∙ made.input ∙ ap (λ (v : ConnectionView). drop c.args.asked.end v.input) c.begin.ensures)
          (sent.beside.number ∙ stands.number ∙ ap (λ (s : State). s.number) made.state)
          (ap is_some (sent.beside.drops ∙ stands.drops ∙ ap (λ (s : State). s.drops) made.state))
          (sent.beside.ended ∙ stands.ended ∙ ap (λ (s : State). s.ended) made.state)
          (subst (λ (v : Course). Settles v (course_of new)) course sent.settles)
          (λ known count at. asked_due old.connection.input old.state.ended c.args.pool.now.fields c.args.asked (told old.stream) count c.requires.asked known at),
    )

pub returns-clause-waits : goal.returns-clause-waits
returns-clause-waits g c =
    let outcome = c.serve_front-outcome.result in
    let handler = c.serve_front-outcome.new.handler in
    let sent = c.send_replies-ending.ensures in
    let answered = c.answered.ensures in
    let same = sent.hold ∙ answered.hold in
    waits_either g.H.Handler.replies g.H.Prepares.holds outcome c.args.asked.found c.args.handler.now handler c.send_replies-ending.new.self.state.hold _
    c.serve_front-outcome.ensures.comes
    (rw (same) (c.hold_after_answer-hold.ensures.ok))
    (λ some. ap (λ p. p.stream) (sent.waits (rw (← sent.hold) some)).0 ∙ answered.keeps.stream ∙ c.serve_front-outcome.ensures.stream)
