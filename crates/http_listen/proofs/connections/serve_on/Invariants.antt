use Rattle.std.specs.Prelude.{◌≤◌, List}
use Rattle.http_listen.specs.Conversations.{Deed, Runs}
use Rattle.http_listen.specs.Places.{peer_at}
use Rattle.http_listen.proofs.Laws.{ServesCount}
use Rattle.http_listen.proofs.Sessions.{Session}
use Rattle.http_listen.proofs.connections.serve_on.Given as goal

abbrev pub invariant-turns : goal.invariant-turns
invariant-turns g l =
    ServesCount g.H.Handler.replies g.H.Downloads.reads g.H.Prepares.prepares l.begun l.initial.handler l.handler
    × (l.begun ≤ l.initial.connections)
    × ((deeds : List Deed)
    × Runs g.H.Handler.replies g.H.Downloads.reads g.H.Downloads.ticket_of g.H.Prepares.prepares l.initial.handler deeds l.handler
    × Session g.L.Stream.Talks.told l.begun deeds (g.W.Logs.marks l.initial.log) (g.W.Logs.marks l.log) (peer_at l.pool.places))
