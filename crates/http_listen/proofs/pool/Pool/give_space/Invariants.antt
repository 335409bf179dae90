use Rattle.http_listen.specs.Goes.{Goes}
use Rattle.http_listen.specs.Places.{peer_at}
use Rattle.http_listen.proofs.pool.Pool.give_space.Given as goal

abbrev pub invariant-ends : goal.invariant-ends
invariant-ends g l =
    Goes g.S.Talks.told (g.W.Logs.marks l.fn.log) (peer_at l.fn.self.places) (g.W.Logs.marks l.log) (peer_at l.self.places)
