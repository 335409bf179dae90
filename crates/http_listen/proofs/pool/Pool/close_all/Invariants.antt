use Rattle.std.specs.Prelude.{◌≡◌, ◌<◌, ℕ, None}
use Rattle.http_listen.specs.Goes.{Goes}
use Rattle.http_listen.specs.Places.{peer_at}
use Rattle.http_listen.proofs.pool.Pool.close_all.Given as goal

abbrev pub invariant-closes : goal.invariant-closes
invariant-closes g l =
    Goes g.S.Talks.told (g.W.Logs.marks l.fn.log) (peer_at l.fn.self.places) (g.W.Logs.marks l.log) (peer_at l.self.places)
    × ((key : ℕ) → key < l.key → peer_at l.self.places key ≡ None)
    × ((key : ℕ) → peer_at l.fn.self.places key ≡ None → peer_at l.self.places key ≡ None)
