use Rattle.http_listen.specs.Places.{peer_at}
use Rattle.http_listen.specs.Stays.{AllStand}
use Rattle.connection_runs.proofs.peers.listener.ListenerWaits.wait.Given as goal

abbrev pub invariant-waits : goal.invariant-waits
invariant-waits l = AllStand (peer_at l.fn.places) (peer_at l.places)
