-- The open connections by their keys, and what is known of their streams.
use Rattle.std.specs.Prelude.{◌≡◌, ◌≢◌, ◌||◌, ℕ, Option}
use Rattle.std.specs.Global.{Box}
use Rattle.std.specs.Option.{option_map}
use Rattle.slab.specs.Slab.{Slab, get}
use Rattle.http_listen.specs.declared.peers.Peer.{Peer}
use Rattle.http_listen.specs.declared.places.Place.{Place}
use Rattle.http_listen.specs.declared.places.Places.{Places}
use Rattle.http_listen.specs.declared.readiness.Readiness.{Readiness}
use Rattle.http_listen.specs.declared.waits.Change.{Change}

-- what a stream may be ready for once a change of it was reported
abbrev pub after_change : Change → Readiness → Readiness
after_change change ready =
    record { reads = ready.reads || change.reads; writes = ready.writes || change.writes; ends = ready.ends || change.ends }

module _ {S : Type 0} where
  -- the connection at a key of a list of places, if there is one
  abbrev pub peer_in : Slab (Place S) → ℕ → Option (Peer S)
  peer_in places key = option_map (λ place. place.peer.value) (get places key)

  -- the same of all open connections
  abbrev pub peer_at : Places S → ℕ → Option (Peer S)
  peer_at places key = peer_in places.places key

  -- a connection that was taken out, if there was one
  abbrev pub taken_out : Option (Box (Peer S)) → Option (Peer S)
  taken_out = option_map (λ peer. peer.value)

  -- the key that the next connection gets
  abbrev pub next_key : Places S → ℕ
  next_key places = places.places.vacant_key

  -- the connections are the same
  abbrev pub KeepsAll : Places S → Places S → Type 0
  KeepsAll old new = (key : ℕ) → peer_at new key ≡ peer_at old key

  -- a connection of whose stream a change was reported
  abbrev pub with_change : Change → Peer S → Peer S
  with_change change peer = record peer { state = record peer.state { ready = after_change change peer.state.ready } }

  -- A change of the stream at a key was reported: the connection there, if there is one, has it, and every other one is the same.
  pub record Reports (key : ℕ) (change : Change) (old new : Places S) : Type 0 where
    pub here : peer_at new key ≡ option_map (with_change change) (peer_at old key)
    pub others : (other : ℕ) → other ≢ key → peer_at new other ≡ peer_at old other
