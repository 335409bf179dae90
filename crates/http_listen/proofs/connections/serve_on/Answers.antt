use Rattle.std.proofs.Common.{◌++◌, ◌∷◌, [], arith, refl, le_antisymm}
use Rattle.std.proofs.lemmas.Bool.{ltb-true}
use Rattle.http_listen.specs.Conversations.{deeds_of}
use Rattle.http_listen.specs.Places.{peer_at}
use Rattle.http_listen.proofs.AllLemmas.{runs_both}
use Rattle.http_listen.proofs.Laws.{serves_first, serves_answer, serves_part}
use Rattle.http_listen.proofs.StepLemmas.{course_is}
use Rattle.http_listen.proofs.Sessions.{Session, session_none, session_goes, session_acts, session_new, are_over, in_order}
use Rattle.http_listen.proofs.connections.serve_on.Goals.{in-New, in-Asks, in-Reads, in-Nothing, else-turns-test, then-turns-test+in-Over}
use Rattle.http_listen.proofs.connections.serve_on.Goals as goal

pub turns-init : goal.turns-init
turns-init g c = (
  ([], refl, refl, tt),
  omega arith,
  ([], refl, session_none g.L.Stream.Talks.told c.new-pool.ensures),
)

pub turns-preserved : goal.turns-preserved
turns-preserved g c =
    let told = g.L.Stream.Talks.told in
    let replies = g.H.Handler.replies in
    let fails = g.H.Handler.fails in
    let reads = g.H.Downloads.reads in
    let tickets = g.H.Downloads.ticket_of in
    let prepares = g.H.Prepares.prepares in
    let begun = c.turns.begun in
    let done = c.turns.invariant.2 in
    elim c.match-find.branch [
      | in-New w ↦ rw (w.handler-is, w.begun-is, w.pool-is, w.log-is) (
        serves_first replies reads prepares begun c.args.handler.now c.turns.handler _ c.turns.invariant.0 w.open.ensures.comes,
        omega (arith, ltb-true c.turns.begun c.args.connections (c.find.ensures.wanted w.in-New.stream w.in-New.is)),
        (
            let peer = w.new-peer.result in
            let made = w.new-peer.ensures in
            let act = w.open.ensures.acted in (
              done.0 ++ deeds_of peer.state.number (act.0 ∷ []),
              runs_both replies reads tickets prepares c.args.handler.now c.turns.handler w.open.new.handler done.0
                  (deeds_of peer.state.number (act.0 ∷ [])) done.1 (w.open.new.handler, act.1, refl),
              session_new told peer (act.0 ∷ []) w.in-New.stream done.2 w.in-New.ensures.goes made.number made.stream made.input made.output
                  (course_is made.unsent made.outcome made.requests) made.ended
                  w.opened.ensures.opens act.2,
            )
            ),
      )
      | in-Asks w ↦ rw (w.handler-is, w.begun-is, w.pool-is, w.log-is) (
        serves_answer replies reads prepares begun c.args.handler.now c.turns.handler _ c.turns.invariant.0 w.answer.ensures.comes,
        c.turns.invariant.1,
        (
            let peer = w.in-Asks.peer.value in
            let acts = w.answer.ensures.acted in (
              done.0 ++ deeds_of peer.state.number acts.0,
              runs_both replies reads tickets prepares c.args.handler.now c.turns.handler w.answer.new.handler done.0
                  (deeds_of peer.state.number acts.0) done.1 acts.1,
              session_acts told peer acts.0 done.2 w.in-Asks.ensures.goes acts.2,
            )
            ),
      )
      | in-Reads w ↦ rw (w.handler-is, w.begun-is, w.pool-is, w.log-is) (
        serves_part replies reads prepares begun c.args.handler.now c.turns.handler _ c.turns.invariant.0 w.send_part.ensures.reads,
        c.turns.invariant.1,
        (
            let peer = w.in-Reads.peer.value in
            let act = w.send_part.ensures.acted in (
              done.0 ++ deeds_of peer.state.number (act.0 ∷ []),
              runs_both replies reads tickets prepares c.args.handler.now c.turns.handler w.send_part.new.handler done.0
                  (deeds_of peer.state.number (act.0 ∷ [])) done.1 (w.send_part.new.handler, act.1, refl),
              session_acts told peer (act.0 ∷ []) done.2 w.in-Reads.ensures.goes act.2,
            )
            ),
      )
      | in-Nothing w ↦ rw (w.handler-is, w.begun-is, w.pool-is, w.log-is) (
        c.turns.invariant.0,
        c.turns.invariant.1,
        (done.0, done.1, session_goes told done.2 w.in-Nothing.ensures.goes),
      )
    ]

pub returns-then-begun-connections-clause-named : goal.returns-then-begun-connections-clause-named
returns-then-begun-connections-clause-named g c =
    let told = g.L.Stream.Talks.told in
    let marks = g.W.Logs.marks in
    let begun = c.turns.begun in
    let done = c.turns.invariant.2 in
    let first = marks c.args.log.now in
    let last = marks c.close_all.new.log in
    let places = peer_at c.close_all.new.self.places in
    let before : Session told begun done.0 first (marks c.turns-test.log) (peer_at c.turns-test.pool.places) =
    elim c.turns-test.branch [
      | else-turns-test w ↦ rw (w.log-is, w.pool-is) done.2
      | then-turns-test+in-Over w ↦ rw (w.log-is, w.pool-is) (session_goes told done.2 w.in-Over.ensures.goes)
    ] in
    let closed : Session told begun done.0 first last places = session_goes told before c.close_all.ensures.goes in (
      done.0,
      done.1,
      in_order told begun done.0 first last places c.close_all.ensures.none closed c.args.connections c.turns.invariant.1,
      (begun, c.turns.invariant.1, tt, are_over told begun done.0 first last places c.close_all.ensures.none closed),
    )

pub returns-clause-named : goal.returns-clause-named
returns-clause-named g c =
    let told = g.L.Stream.Talks.told in
    let marks = g.W.Logs.marks in
    let begun = c.turns.begun in
    let done = c.turns.invariant.2 in
    let first = marks c.args.log.now in
    let last = marks c.close_all.new.log in
    let places = peer_at c.close_all.new.self.places in
    let before : Session told begun done.0 first (marks c.turns-test.log) (peer_at c.turns-test.pool.places) =
    elim c.turns-test.branch [
      | else-turns-test w ↦ rw (w.log-is, w.pool-is) done.2
      | then-turns-test+in-Over w ↦ rw (w.log-is, w.pool-is) (session_goes told done.2 w.in-Over.ensures.goes)
    ] in
    let closed : Session told begun done.0 first last places = session_goes told before c.close_all.ensures.goes in (
      done.0,
      done.1,
      in_order told begun done.0 first last places c.close_all.ensures.none closed c.args.connections c.turns.invariant.1,
      (
        begun,
        c.turns.invariant.1,
        le_antisymm c.turns.invariant.1 c.if-begun-connections.false,
        are_over told begun done.0 first last places c.close_all.ensures.none closed,
      ),
    )
