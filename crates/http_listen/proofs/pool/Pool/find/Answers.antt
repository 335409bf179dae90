use Rattle.std.proofs.Common.{◌≡◌, None}
use Rattle.http_listen.specs.Goes.{Goes}
use Rattle.http_listen.specs.Places.{peer_at}
use Rattle.http_listen.proofs.PoolLemmas.{none_of_not, passes_both}
use Rattle.http_listen.proofs.pool.Pool.find.Goals.{then-stops, else-stops, else-count-gt0-via-then-count-gt0+else-wait, else-count-gt0-via-else-count-gt0}
use Rattle.http_listen.proofs.pool.Pool.find.Goals as goal

pub returns-in-Some-clause-goes : goal.returns-in-Some-clause-goes
returns-in-Some-clause-goes g c =
    let told = g.S.Talks.told in
    let marks = g.W.Logs.marks in
    let before : Goes told (marks c.args.log.now) (peer_at c.args.self.now.places) (marks c.if-stops.log) (peer_at c.if-stops.self.places) =
    elim c.if-stops.branch [
      | then-stops w ↦ rw (w.log-is, w.self-is) (passes_both told c.give_space.ensures.goes w.end_stopped.ensures.goes)
      | else-stops w ↦ rw (w.log-is, w.self-is) c.give_space.ensures.goes
    ] in
    passes_both told before c.in-Some.ensures.goes

pub returns-then-may_accept-clause-goes : goal.returns-then-may_accept-clause-goes
returns-then-may_accept-clause-goes g c =
    let told = g.S.Talks.told in
    let marks = g.W.Logs.marks in
    let before : Goes told (marks c.args.log.now) (peer_at c.args.self.now.places) (marks c.if-stops.log) (peer_at c.if-stops.self.places) =
    elim c.if-stops.branch [
      | then-stops w ↦ rw (w.log-is, w.self-is) (passes_both told c.give_space.ensures.goes w.end_stopped.ensures.goes)
      | else-stops w ↦ rw (w.log-is, w.self-is) c.give_space.ensures.goes
    ] in
    let none : c.give_turn.result ≡ None = none_of_not c.give_turn.result c.in_default.not-Some in
    let state : Goes told (marks c.if-stops.log) (peer_at c.if-stops.self.places) (marks c.give_turn.new.log) (peer_at c.give_turn.new.self.places) =
    rw none at c.give_turn.ensures.goes in
    rw c.accept.ensures.none (passes_both told before (passes_both told state c.accept.ensures.goes))

pub returns-then-wait-clause-goes : goal.returns-then-wait-clause-goes
returns-then-wait-clause-goes g c =
    let told = g.S.Talks.told in
    let marks = g.W.Logs.marks in
    let before : Goes told (marks c.args.log.now) (peer_at c.args.self.now.places) (marks c.if-stops.log) (peer_at c.if-stops.self.places) =
    elim c.if-stops.branch [
      | then-stops w ↦ rw (w.log-is, w.self-is) (passes_both told c.give_space.ensures.goes w.end_stopped.ensures.goes)
      | else-stops w ↦ rw (w.log-is, w.self-is) c.give_space.ensures.goes
    ] in
    let none : c.give_turn.result ≡ None = none_of_not c.give_turn.result c.in_default.not-Some in
    let state : Goes told (marks c.if-stops.log) (peer_at c.if-stops.self.places) (marks c.give_turn.new.log) (peer_at c.give_turn.new.self.places) =
    rw none at c.give_turn.ensures.goes in
    passes_both told before (passes_both told state c.wait.ensures.goes)

pub returns-else-count-gt0-clause-goes : goal.returns-else-count-gt0-clause-goes
returns-else-count-gt0-clause-goes g c =
    let told = g.S.Talks.told in
    let marks = g.W.Logs.marks in
    let before : Goes told (marks c.args.log.now) (peer_at c.args.self.now.places) (marks c.if-stops.log) (peer_at c.if-stops.self.places) =
    elim c.if-stops.branch [
      | then-stops w ↦ rw (w.log-is, w.self-is) (passes_both told c.give_space.ensures.goes w.end_stopped.ensures.goes)
      | else-stops w ↦ rw (w.log-is, w.self-is) c.give_space.ensures.goes
    ] in
    let none : c.give_turn.result ≡ None = none_of_not c.give_turn.result c.in_default.not-Some in
    let state : Goes told (marks c.if-stops.log) (peer_at c.if-stops.self.places) (marks c.give_turn.new.log) (peer_at c.give_turn.new.self.places) =
    rw none at c.give_turn.ensures.goes in
    elim c.else-count-gt0.branch [
      | else-count-gt0-via-then-count-gt0+else-wait w ↦ rw (w.log-is, w.self-is) (
          passes_both told before (passes_both told state w.wait.ensures.goes)
          )
      | else-count-gt0-via-else-count-gt0 w ↦ rw (w.log-is, w.self-is) (passes_both told before state)
    ]
