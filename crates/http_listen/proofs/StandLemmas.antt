-- Connections of whose streams changes were reported.
use Rattle.std.proofs.Common.{◌≡◌, ℕ, Bool, true, false, List, [], ◌∷◌, None, Some, cond, refl, sym, ◌∙◌, subst}
use Rattle.std.specs.Prelude.{nat_eq}
use Rattle.std.specs.declared.option.Option.{Option}
use Rattle.std.specs.Option.{option_map}
use Rattle.mio.specs.declared.event.event.Event.{Event}
use Rattle.http_listen.specs.declared.peers.Peer.{Peer}
use Rattle.http_listen.specs.declared.waits.Change.{Change}
use Rattle.http_listen.specs.Listeners.{key_of, is_of_listener, change_of, after_event, after_events}
use Rattle.http_listen.specs.Places.{with_change}
use Rattle.http_listen.specs.Stays.{StandsAt, AllStand}

module _ {S : Type 0} where
  stand_same : (at : Option (Peer S)) → StandsAt at at
  stand_same None = tt
  stand_same (Some peer) = record { stream = refl; input = refl; output = refl; number = refl; drops = refl; ended = refl; course = refl }

  stand_both : (old mid new : Option (Peer S)) → StandsAt old mid → StandsAt mid new → StandsAt old new
  stand_both None None None s t = tt
  stand_both (Some before) None new s t = absurd s
  stand_both None (Some peer) new s t = absurd s
  stand_both old None (Some now) s t = absurd t
  stand_both old (Some peer) None s t = absurd t
  stand_both (Some before) (Some peer) (Some now) s t = record {
    stream = t.stream ∙ s.stream;
    input = t.input ∙ s.input;
    output = t.output ∙ s.output;
    number = t.number ∙ s.number;
    drops = t.drops ∙ s.drops;
    ended = t.ended ∙ s.ended;
    course = t.course ∙ s.course;
  }

  stand_changed : (change : Change) (at : Option (Peer S)) → StandsAt at (option_map (with_change change) at)
  stand_changed change None = tt
  stand_changed change (Some peer) = record { stream = refl; input = refl; output = refl; number = refl; drops = refl; ended = refl; course = refl }

  stand_cond : (b : Bool) (at x y : Option (Peer S)) → StandsAt at x → StandsAt at y → StandsAt at (cond b x y)
  stand_cond true at x y s t = s
  stand_cond false at x y s t = t

  stand_event : (key : ℕ) (event : Event) (at : Option (Peer S)) → StandsAt at (after_event key event at)
  stand_event key event at = stand_cond (is_of_listener event) at at _ (stand_same at)
      (stand_cond (nat_eq key (key_of event)) at (option_map (with_change (change_of event)) at) at (stand_changed (change_of event) at) (stand_same at))

  stand_events : (key : ℕ) (events : List Event) (at : Option (Peer S)) → StandsAt at (after_events key events at)
  stand_events key [] at = stand_same at
  stand_events key (event ∷ events) at =
      stand_both at (after_event key event at) (after_events key events (after_event key event at)) (stand_event key event at)
      (stand_events key events (after_event key event at))

  -- After the events of a wait.
  pub all_stand_events : (events : List Event) (old new : ℕ → Option (Peer S)) → ((key : ℕ) → new key ≡ after_events key events (old key)) → AllStand old new
  all_stand_events events old new same key = subst (λ (x : Option (Peer S)). StandsAt (old key) x) (sym (same key)) (stand_events key events (old key))

  -- One after the other.
  pub all_stand_both : (old mid new : ℕ → Option (Peer S)) → AllStand old mid → AllStand mid new → AllStand old new
  all_stand_both old mid new s t key = stand_both (old key) (mid key) (new key) (s key) (t key)

  -- The connections are the same.
  pub all_stand_same : (old new : ℕ → Option (Peer S)) → ((key : ℕ) → new key ≡ old key) → AllStand old new
  all_stand_same old new same key = subst (λ (x : Option (Peer S)). StandsAt (old key) x) (sym (same key)) (stand_same (old key))
