use Rattle.http_listen.specs.Places.{peer_at}
use Rattle.http_listen.specs.Stays.{AllStand}
use Rattle.connection_runs.proofs.peers.listener.Listener.report.Given as goal

abbrev pub invariant-reports : goal.invariant-reports
invariant-reports l = AllStand (peer_at l.fn.places) (peer_at l.places)
