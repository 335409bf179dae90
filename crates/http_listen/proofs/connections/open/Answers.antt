use Rattle.std.proofs.Common.{◌≡◌, [], ◌∷◌, None, Some, refl, ap, subst, ◌∙◌, drop, inl, inr, take}
use Rattle.std.specs.Prelude.{is_some}
use Rattle.http_listen.specs.declared.peers.State.{State}
use Rattle.http_listen.specs.Conversations.{answered}
use Rattle.http_listen.specs.Courses.{Course, Settles, course_of}
use Rattle.http_listen.specs.Rests.{once_sent, rest_after}
use Rattle.http_listen.specs.Talks.{Moves}
use Rattle.http_requests.specs.declared.inputs.TheConstants.{NOTHING_ASKED}
use Rattle.http_listen.proofs.AskedLemmas.{asked_one, nothing_asked}
use Rattle.http_listen.proofs.PoolLemmas.{acts_then}
use Rattle.http_listen.proofs.StepLemmas.{course_is, steps_answered}
use Rattle.http_listen.proofs.connections.open.Goals as goal

pub returns-clause-comes : goal.returns-clause-comes
returns-clause-comes g c = (c.serve_front-outcome.result, c.serve_front-outcome.ensures.comes)

pub returns-clause-acted : goal.returns-clause-acted
returns-clause-acted g c =
    let told = g.S.Talks.told in
    let peer = c.args.peer in
    let made = c.serve_front-outcome.ensures in
    let front = c.serve_front-outcome.new.peer in
    let outcome = c.serve_front-outcome.result in
    let new = c.send_replies-ending.new.self in
    let keeps = c.answered.ensures.keeps in
    let sent = c.send_replies-ending.ensures in
    let ticket = g.H.Downloads.ticket_of c.serve_front-outcome.new.handler in
    let one = asked_one peer.connection.input c.args.pool.now.fields NOTHING_ASKED
    (nothing_asked peer.connection.input c.args.pool.now.fields c.requires.fresh) in
    let act = answered (take 0 peer.connection.input) front.connection.output outcome ticket in
    let then : Moves (told front.stream) front.connection.output [] [] (told new.stream) new.connection.output =
    rw (← keeps.stream, ← keeps.output) sent.moves in
    let course : course_of c.answered.new.self ≡ record { left = rest_after ticket outcome; outcome = Some (once_sent outcome); requests = peer.state.requests } =
    course_is (keeps.unsent ∙ made.unsent) c.answered.ensures.outcome (c.answered.ensures.requests ∙ ap (λ (s : State). s.requests) made.state) in (
      act,
      (made.answers, refl, one),
      acts_then told peer new (act ∷ []) (c.send_replies-ending.result ≡ None)
          (steps_answered told peer front new 0 outcome ticket (c.send_replies-ending.result ≡ None) c.requires.sent c.requires.whole c.requires.settled
          made.stream then (sent.beside.input ∙ keeps.input ∙ made.input)
          (sent.beside.number ∙ keeps.number ∙ ap (λ (s : State). s.number) made.state)
          (ap is_some (sent.beside.drops ∙ keeps.drops ∙ ap (λ (s : State). s.drops) made.state))
          (sent.beside.ended ∙ keeps.ended ∙ ap (λ (s : State). s.ended) made.state)
          (subst (λ (v : Course). Settles v (course_of new)) course sent.settles)
          (λ known count at. inr (inr (inl refl))))
          c.opened.ensures,
    )

pub serve_front-outcome-requires-clause-found : goal.serve_front-outcome-requires-clause-found
serve_front-outcome-requires-clause-found g c = nothing_asked c.args.peer.connection.input c.args.pool.now.fields c.requires.fresh
