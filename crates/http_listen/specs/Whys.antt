-- Why a connection ends.
use Rattle.std.specs.Prelude.{◌≡◌, ◌⊎◌, ◌<◌, ℕ, [], length, None, Some, IsSome, true, Result, Ok, Err}
use Rattle.http_serve.specs.declared.connection.Served.{Served}
use Rattle.http_listen.specs.declared.ends.EndFault.{EndFault}
use Rattle.http_listen.specs.declared.ends.EndFault.TheVariants.{Write}
use Rattle.http_listen.specs.declared.peers.Peer.{Peer}
use Rattle.http_listen.specs.Courses.{GoesOnAfter}

module _ {S : Type 0} where
  -- nothing is to be sent to it
  abbrev pub IsSent : Peer S → Type 0
  IsSent peer = (peer.connection.output ≡ []) × (peer.state.unsent ≡ None)

  -- something is
  abbrev pub Owes : Peer S → Type 0
  Owes peer = (0 < length peer.connection.output) ⊎ IsSome peer.state.unsent

  -- It ends as its last answer came to, whose replies are sent: if more could follow these, its input has ended and all of it is answered.
  pub record EndsAnswered (peer : Peer S) (outcome : Result Served EndFault) : Type 0 where
    pub is : peer.state.outcome ≡ Some outcome
    pub sent : IsSent peer
    pub last : GoesOnAfter (Some outcome) → (peer.state.ended ≡ true) × (peer.connection.input ≡ [])

  -- Why it ends as it sends: its replies are sent, or something is to be sent that its stream didn't take.
  abbrev pub EndsSending : (old new : Peer S) → Result Served EndFault → Type 0
  EndsSending old new outcome = EndsAnswered new outcome ⊎ ((outcome ≡ Err (Write 0)) × (Owes old ⊎ Owes new))
