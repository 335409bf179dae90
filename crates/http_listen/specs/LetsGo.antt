-- Which replies no longer wait.
use Rattle.std.specs.Prelude.{◌≡◌, ◌⊎◌, ℕ, Option, None, Some}
use Rattle.http_serve.specs.declared.handlers.Hold.{Hold}
use Rattle.http_listen.specs.declared.peers.Peer.{Peer}
use Rattle.http_listen.specs.Holds.{hold_after}

module _ {S : Type 0} where
  -- what the replies of a connection wait for, if there is one
  abbrev pub hold_of : Option (Peer S) → Option Hold
  hold_of None = None
  hold_of (Some peer) = peer.state.hold

  -- the replies of each connection wait for what they did
  pub record KeepsHolds (old new : ℕ → Option (Peer S)) : Type 0 where
    pub each : (key : ℕ) → hold_of (new key) ≡ hold_of (old key)

  -- or for nothing, if so much is what they waited for
  pub record LetsGo (confirmed : ℕ) (old new : ℕ → Option (Peer S)) : Type 0 where
    pub each : (key : ℕ) → (hold_of (new key) ≡ hold_of (old key)) ⊎ (hold_of (new key) ≡ hold_after confirmed (hold_of (old key)))
