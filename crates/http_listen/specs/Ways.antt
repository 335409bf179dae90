-- Which connections may be closed for a new one.
use Rattle.std.specs.Prelude.{◌≡◌, ◌⊎◌, [], None, IsSome, false}
use Rattle.http_listen.specs.declared.peers.Peer.{Peer}

-- It has ended, or waits for its peer: nothing is to be sent to it, no content is left of its last reply, and it has no request that is to be answered
-- next, as one has whose reply is in the making.
abbrev pub MayGiveWay : {S : Type 0} → Peer S → Type 0
MayGiveWay peer = IsSome peer.state.drops
    ⊎ ((peer.connection.output ≡ []) × (peer.state.unsent ≡ None) × (peer.state.searches ≡ false))
