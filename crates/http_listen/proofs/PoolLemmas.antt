-- The connections by their keys, as turns are given to them.
use Rattle.std.proofs.Common.{◌≡◌, ◌≢◌, ℕ, List, [], ◌∷◌, ◌++◌, Bool, true, false, None, Some, refl, sym, ap, subst, ◌∙◌, append_assoc, append-nil}
use Rattle.std.proofs.lemmas.Bool.{eqb-true, eqb-false}
use Rattle.std.specs.Global.{Box}
use Rattle.std.specs.Prelude.{nat_eq, is_some, ⊤}
use Rattle.std.specs.declared.option.Option.{Option}
use Rattle.http_listen.specs.declared.peers.Peer.{Peer}
use Rattle.http_listen.specs.Conversations.{Act, Deed, Conversation, Steps, Puts, IsHeld}
use Rattle.http_listen.specs.Goes.{Acts, Closes, Goes, Ledger, Passes}
use Rattle.http_listen.specs.Marks.{Mark, at_closing, Adds}
use Rattle.http_listen.specs.Stays.{AllStand}
use Rattle.http_listen.specs.Talks.{Told}
use Rattle.http_listen.proofs.HeldLemmas.{turn_held, turn_talks}
use Rattle.http_listen.proofs.Ledgers.{Carries, ledger_acts, ledger_close, ledger_put, ledger_stand, ledger_take, ledger_turn}
use Rattle.http_listen.proofs.MarkLemmas.{adds_none, adds_both}
use Rattle.http_listen.proofs.StandLemmas.{all_stand_same}
use Rattle.http_listen.proofs.StepLemmas.{none_of}

-- An option that is no value.
pub none_of_not : {T : Type 0} (x : Option T) → ((y : T) → x ≡ Some y → ⊥) → x ≡ None
none_of_not None f = refl
none_of_not (Some y) f = absurd (f y refl)

module _ {S : Type 0} (told : S → Option Told) where
  -- Nothing is told of connections.
  pub passes_by : {before : Option (List (Mark S))} {old new : ℕ → Option (Peer S)} {hand then : Option (Peer S)} {whole rests : Type 0}
      → ((begun : ℕ) (deeds : List Deed) (marks : List (Mark S)) → Ledger told begun deeds marks old hand whole → Ledger told begun deeds marks new then rests)
      → Passes told before old hand whole before new then rests
  passes_by {before} {old} {new} {hand} {then} {whole} {rests} f = record {
    more = [];
    adds = adds_none before;
    goes = λ begun deeds marks l.
        subst (λ (m : List (Mark S)). Ledger told begun deeds m new then rests) (sym (append-nil marks)) (f begun deeds marks l);
  }

  -- Nothing is done, and one after the other.
  pub passes_none : {before : Option (List (Mark S))} {old : ℕ → Option (Peer S)} {hand : Option (Peer S)} {whole : Type 0}
      → Passes told before old hand whole before old hand whole
  passes_none = passes_by (λ begun deeds marks l. l)

  pub passes_both : {before between after : Option (List (Mark S))} {old mid new : ℕ → Option (Peer S)} {hand held then : Option (Peer S)}
      {whole half rests : Type 0} → Passes told before old hand whole between mid held half → Passes told between mid held half after new then rests
      → Passes told before old hand whole after new then rests
  passes_both {before} {between} {after} {old} {mid} {new} {hand} {held} {then} {whole} {half} {rests} s t = record {
    more = s.more ++ t.more;
    adds = adds_both before between after s.more t.more s.adds t.adds;
    goes = λ begun deeds marks l.
        subst (λ (m : List (Mark S)). Ledger told begun deeds m new then rests) (append_assoc marks s.more t.more)
        (t.goes begun deeds (marks ++ s.more) (s.goes begun deeds marks l));
  }

  -- What the log was told is the same.
  pub passes_from : {before same after : Option (List (Mark S))} {old new : ℕ → Option (Peer S)} {hand then : Option (Peer S)} {whole rests : Type 0}
      → same ≡ before → Passes told same old hand whole after new then rests → Passes told before old hand whole after new then rests
  passes_from {before} {same} {after} {old} {new} {hand} {then} {whole} {rests} e p =
      subst (λ (m : Option (List (Mark S))). Passes told m old hand whole after new then rests) e p

  -- Connections whose streams and bytes are the same.
  pub passes_stand : {before : Option (List (Mark S))} {old new : ℕ → Option (Peer S)} {hand : Option (Peer S)} {whole : Type 0} → AllStand old new
      → Passes told before old hand whole before new hand whole
  passes_stand {before} {old} {new} {hand} {whole} stand =
      passes_by (λ begun deeds marks l. ledger_stand told begun deeds marks old new hand whole stand l)

  pub passes_same : {before : Option (List (Mark S))} {old new : ℕ → Option (Peer S)} {hand : Option (Peer S)} {whole : Type 0}
      → ((key : ℕ) → new key ≡ old key) → Passes told before old hand whole before new hand whole
  passes_same {before} {old} {new} {hand} {whole} same = passes_stand (all_stand_same old new same)

  -- There is none at a key to be taken out.
  same_each : {old new : ℕ → Option (Peer S)} (key : ℕ) → old key ≡ None → new key ≡ None → ((other : ℕ) → other ≢ key → new other ≡ old other)
      → (other : ℕ) (b : Bool) → nat_eq other key ≡ b → new other ≡ old other
  same_each {old} {new} key was is others other true e = let same = eqb-true other key e in ap new same ∙ is ∙ sym was ∙ ap old (sym same)
  same_each {old} {new} key was is others other false e = others other (eqb-false other key e)

  pub passes_empty : {before : Option (List (Mark S))} {old new : ℕ → Option (Peer S)} (key : ℕ) → old key ≡ None → new key ≡ None
      → ((other : ℕ) → other ≢ key → new other ≡ old other) → Goes told before old before new
  passes_empty {before} {old} {new} key was is others = passes_same (λ other. same_each key was is others other (nat_eq other key) refl)

  -- A connection is taken out.
  pub passes_take : {before : Option (List (Mark S))} {old new : ℕ → Option (Peer S)} (key : ℕ) (peer : Peer S) → old key ≡ Some peer → new key ≡ None
      → ((other : ℕ) → other ≢ key → new other ≡ old other) → Passes told before old None ⊤ before new (Some peer) (peer.state.drops ≡ None)
  passes_take {before} {old} {new} key peer here none others =
      passes_by (λ begun deeds marks l. ledger_take told begun deeds marks old new key peer here none others l)

  -- It is put at a key.
  pub passes_put : {before : Option (List (Mark S))} {old new : ℕ → Option (Peer S)} (key : ℕ) (peer : Peer S) → old key ≡ None → Puts old key peer new
      → Passes told before old (Some peer) (peer.state.drops ≡ None) before new None ⊤
  passes_put {before} {old} {new} key peer free puts =
      passes_by (λ begun deeds marks l. ledger_put told begun deeds marks old new key peer free puts l)

  -- What holds of it holds of what it is then.
  pub passes_carry : {before : Option (List (Mark S))} {places : ℕ → Option (Peer S)} (peer now : Peer S) (whole rests : Type 0)
      → now.state.number ≡ peer.state.number → Carries told peer whole now rests → Passes told before places (Some peer) whole before places (Some now) rests
  passes_carry {before} {places} peer now whole rests number carries =
      passes_by (λ begun deeds marks l. ledger_turn told begun deeds marks places peer now whole rests number carries l)

  -- Less is said of it.
  pub passes_less : {before : Option (List (Mark S))} {places : ℕ → Option (Peer S)} (peer : Peer S) (whole rests : Type 0) → (rests → whole)
      → Passes told before places (Some peer) whole before places (Some peer) rests
  passes_less {before} {places} peer whole rests f = passes_carry peer peer whole rests refl (λ first acts h talks. (h, λ r. talks (f r)))

  -- It has its turn.
  pub passes_turn : {before : Option (List (Mark S))} {places : ℕ → Option (Peer S)} (peer now : Peer S) (whole : Type 0) → Steps told peer [] whole now
      → Passes told before places (Some peer) (peer.state.drops ≡ None) before places (Some now) (whole × (peer.state.drops ≡ None))
  passes_turn {before} {places} peer now whole s =
      passes_carry peer now (peer.state.drops ≡ None) (whole × (peer.state.drops ≡ None)) s.number
      (λ first acts h talks. (turn_held told first acts whole peer now h talks s, λ w. turn_talks told first acts whole peer now talks s w))

  -- It is closed.
  pub passes_close : {before after : Option (List (Mark S))} {places : ℕ → Option (Peer S)} (peer : Peer S) (whole : Type 0) → Closes told before peer after
      → Passes told before places (Some peer) whole after places None ⊤
  passes_close {before} {after} {places} peer whole c = record {
    more = at_closing peer.state.number c.last ∷ [];
    adds = c.adds;
    goes = λ begun deeds marks l. ledger_close told begun deeds marks places peer whole c.last c.talk l;
  }

  -- One that comes back in its box is the one that was put into it.
  pub closes_same : {before after : Option (List (Mark S))} {peer back : Box (Peer S)} → back ≡ peer → Closes told before back.value after
      → Closes told before peer.value after
  closes_same {before} {after} {peer} {back} e c = subst (λ (k : Box (Peer S)). Closes told before k.value after) e c

  -- It has its turn, and is kept or ended then.
  pub passes_rest : {before : Option (List (Mark S))} {places : ℕ → Option (Peer S)} {E : Type 0} (peer now : Peer S) (ending : Option E)
      → Steps told peer [] ((ending ≡ None) × (peer.state.drops ≡ None)) now
      → Passes told before places (Some peer) (peer.state.drops ≡ None) before places (Some now) ((ending ≡ None) × (now.state.drops ≡ None))
  passes_rest peer now ending s =
      let was_open : now.state.drops ≡ None → peer.state.drops ≡ None = λ o. none_of peer.state.drops (sym s.drops ∙ ap is_some o) in
      passes_both (passes_turn peer now ((ending ≡ None) × (peer.state.drops ≡ None)) s)
      (passes_less now (((ending ≡ None) × (peer.state.drops ≡ None)) × (peer.state.drops ≡ None)) ((ending ≡ None) × (now.state.drops ≡ None))
      (λ e. ((e.0, was_open e.1), was_open e.1)))

  -- Or it is answered, or a part is read, and it isn't ended.
  pub passes_out : {before : Option (List (Mark S))} {places : ℕ → Option (Peer S)} (peer now : Peer S) → Steps told peer [] ⊤ now
      → now.state.drops ≡ None → Passes told before places (Some peer) (peer.state.drops ≡ None) before places (Some now) ⊤
  passes_out peer now s is_open =
      passes_both (passes_turn peer now ⊤ s)
      (passes_less now (⊤ × (peer.state.drops ≡ None)) ⊤ (λ e. (tt, none_of peer.state.drops (sym s.drops ∙ ap is_some is_open))))

  -- It is closed with its stream.
  pub passes_gone : {before after : Option (List (Mark S))} {places : ℕ → Option (Peer S)} (peer : Peer S) (whole : Type 0)
      → Adds before (at_closing peer.state.number peer.stream ∷ []) after → Passes told before places (Some peer) whole after places None ⊤
  passes_gone {before} {after} {places} peer whole adds =
      passes_close peer whole (record { last = peer.stream; adds = adds; talk = λ first acts h. h.talk })

  -- It was ended, and is closed then.
  pub closes_then : {before same after : Option (List (Mark S))} (peer now : Peer S) → same ≡ before → now.state.number ≡ peer.state.number
      → ((first : Option Told) (acts : List Act) → IsHeld told first acts peer → Conversation first acts (told now.stream))
      → Adds same (at_closing now.state.number now.stream ∷ []) after → Closes told before peer after
  closes_then {before} {same} {after} peer now e number talk adds = record {
    last = now.stream;
    adds = subst (λ (n : ℕ). Adds before (at_closing n now.stream ∷ []) after) number
        (subst (λ (m : Option (List (Mark S))). Adds m (at_closing now.state.number now.stream ∷ []) after) e adds);
    talk = talk;
  }

  -- Acts of it, and then turns.
  pub acts_then : {before after : Option (List (Mark S))} {old new : ℕ → Option (Peer S)} (peer now : Peer S) (acts : List Act) (whole : Type 0)
      → Steps told peer acts whole now → Passes told before old (Some now) whole after new None ⊤ → Acts told before old peer acts after new
  acts_then {before} {after} {old} {new} peer now acts whole s p = record {
    more = p.more;
    adds = p.adds;
    goes = λ begun deeds marks l.
        p.goes begun (deeds ++ _) marks (ledger_acts told begun deeds marks old peer now acts whole s l);
  }
