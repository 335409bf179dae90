use Rattle.std.proofs.Common.{◌≡◌, ◌||◌, ℕ}
use Rattle.http_listen.specs.Listeners.{has_listener, after_events}
use Rattle.http_listen.specs.Places.{peer_at}
use Rattle.http_listen.proofs.system_listener.SystemListenerWaits.wait.Given as goal

abbrev pub invariant-loop-event : goal.invariant-loop-event
invariant-loop-event l = record {
  comes : (l.comes || has_listener l.event-iterator.rest.now) ≡ has_listener l.initial.event-iterator.rest.now;
  reported : (key : ℕ) → after_events key l.event-iterator.rest.now (peer_at l.places key)
      ≡ after_events key l.initial.event-iterator.rest.now (peer_at l.initial.places key);
}
