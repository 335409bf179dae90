use Rattle.http_listen.specs.LetsGo.{KeepsHolds}
use Rattle.http_listen.specs.Places.{peer_at}
use Rattle.http_listen.specs.Stays.{AllStand}
use Rattle.http_listen.proofs.places.Places.wake_resting.Given as goal

abbrev pub invariant-wakes : goal.invariant-wakes
invariant-wakes g l = AllStand (peer_at l.fn.self) (peer_at l.self) × KeepsHolds (peer_at l.fn.self) (peer_at l.self)
