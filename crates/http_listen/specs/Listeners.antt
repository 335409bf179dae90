-- What a listener of the system reports of the streams that it watches.
use Rattle.std.specs.Prelude.{ℕ, Bool, false, cond, nat_eq, ◌||◌, List, [], ◌∷◌, Option}
use Rattle.std.specs.Option.{option_map}
use Rattle.mio.specs.Event.{event_token, is_readable, is_writable, is_error, is_read_closed, is_write_closed}
use Rattle.mio.specs.declared.event.event.Event.{Event}
use Rattle.http_listen.specs.declared.peers.Peer.{Peer}
use Rattle.http_listen.specs.declared.system_listener.TheConstants.{LISTENER}
use Rattle.http_listen.specs.declared.waits.Change.{Change}
use Rattle.http_listen.specs.Places.{with_change}

-- what contracts see: how many connections may be open at once, and the events that the last wait gave
pub record ListenerView : Type 0 where
  pub max_open : ℕ
  pub events : List Event

-- the key by which the stream of an event is watched
abbrev pub key_of : Event → ℕ
key_of event = (event_token event).0

-- the event is of the listener itself
abbrev pub is_of_listener : Event → Bool
is_of_listener event = nat_eq (key_of event) LISTENER

-- one of the events is
abbrev pub has_listener : List Event → Bool
has_listener [] = false
has_listener (event ∷ events) = is_of_listener event || has_listener events

-- nothing more can be read of the stream than what has come, or it is at fault
abbrev pub is_ending : Event → Bool
is_ending event = is_read_closed event || is_error event

-- what an event says of a stream
abbrev pub change_of : Event → Change
change_of event = record {
  reads = is_readable event || is_ending event;
  writes = (is_writable event || is_write_closed event) || is_error event;
  ends = is_ending event;
}

module _ {S : Type 0} where
  -- what is at a key after an event: that of the listener itself changes no connection
  abbrev pub after_event : ℕ → Event → Option (Peer S) → Option (Peer S)
  after_event key event peer =
      cond (is_of_listener event) peer (cond (nat_eq key (key_of event)) (option_map (with_change (change_of event)) peer) peer)

  -- what is at it after these events, from the first to the last
  abbrev pub after_events : ℕ → List Event → Option (Peer S) → Option (Peer S)
  after_events key [] peer = peer
  after_events key (event ∷ events) peer = after_events key events (after_event key event peer)
