use Rattle.http_listen.specs.Goes.{Goes}
use Rattle.http_listen.specs.Places.{peer_at}
use Rattle.http_listen.proofs.pool.Pool.end_late.Given as goal

abbrev pub invariant-looks : goal.invariant-looks
invariant-looks g l =
    Goes g.S.Talks.told (g.W.Logs.marks l.fn.log) (peer_at l.fn.self.places) (g.W.Logs.marks l.log) (peer_at l.self.places)
