-- In which list a connection is.
use Rattle.std.specs.Prelude.{◌≡◌, ◌⊎◌, None, IsSome, true}
use Rattle.http_listen.specs.declared.peers.Peer.{Peer}
use Rattle.http_listen.specs.declared.places.List.{List}
use Rattle.http_listen.specs.declared.places.List.TheVariants.{Ready, Resting, Held}
use Rattle.http_listen.specs.Whys.{IsSent, Owes}

module _ {S : Type 0} where
  -- There is something to do for it: its stream may take what is to be sent, or if nothing is, it may have bytes to read, or its input is to be searched.
  abbrev pub HasTurn : Peer S → Type 0
  HasTurn peer = (Owes peer × (peer.state.ready.writes ≡ true))
      ⊎ (IsSent peer × ((peer.state.ready.reads ≡ true) ⊎ (peer.state.searches ≡ true)))

  -- While it neither rests nor has replies that wait to be confirmed, it is among those that have their turns just if there is something to do for it.
  pub record IsListed (peer : Peer S) (list : List) : Type 0 where
    pub ready : peer.state.rests ≡ None → peer.state.hold ≡ None → HasTurn peer → list ≡ Ready
    pub turns : list ≡ Ready → (peer.state.rests ≡ None) × (peer.state.hold ≡ None) × HasTurn peer
    pub rests : IsSome peer.state.rests → list ≡ Resting
    pub holds : peer.state.rests ≡ None → IsSome peer.state.hold → list ≡ Held
