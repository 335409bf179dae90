-- Connections whose streams, bytes and rests of contents are the same.
use Rattle.std.specs.Prelude.{ℕ, Option, None, Some, ⊤}
use Rattle.http_listen.specs.declared.peers.Peer.{Peer}
use Rattle.http_listen.specs.Conversations.{Stands}

module _ {S : Type 0} where
  -- what is at a key, and was there before
  abbrev pub StandsAt : Option (Peer S) → Option (Peer S) → Type 0
  StandsAt None None = ⊤
  StandsAt None (Some now) = ⊥
  StandsAt (Some peer) None = ⊥
  StandsAt (Some peer) (Some now) = Stands peer now

  -- so it is at each key
  abbrev pub AllStand : (old new : ℕ → Option (Peer S)) → Type 0
  AllStand old new = (key : ℕ) → StandsAt (old key) (new key)
