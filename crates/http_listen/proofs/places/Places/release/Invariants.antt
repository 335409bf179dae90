use Rattle.http_listen.specs.LetsGo.{LetsGo}
use Rattle.http_listen.specs.Places.{peer_at}
use Rattle.http_listen.specs.Stays.{AllStand}
use Rattle.http_listen.proofs.places.Places.release.Given as goal

abbrev pub invariant-releases : goal.invariant-releases
invariant-releases g l = AllStand (peer_at l.fn.self) (peer_at l.self) × LetsGo l.fn.confirmed (peer_at l.fn.self) (peer_at l.self)
