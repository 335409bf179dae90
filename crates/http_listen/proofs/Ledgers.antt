-- All that was done for the connections of a listener, and what is open of them.
use Rattle.std.proofs.Common.{◌≡◌, ◌≢◌, ℕ, ◌+◌, ◌<◌, ◌≤◌, List, [], ◌∷◌, ◌++◌, Bool, true, false, None, Some, refl, sym, ap, subst, ◌∙◌, inl, inr, ⊎_elim}
use Rattle.std.proofs.Common.{lt_irrefl, lt_of_le_of_lt, eq-or-lt_of_le, arith}
use Rattle.std.proofs.lemmas.Bool.{eqb-true, eqb-false}
use Rattle.std.specs.Prelude.{◌⊎◌, nat_eq, ⊤}
use Rattle.std.specs.declared.option.Option.{Option}
use Rattle.http_listen.specs.declared.peers.Peer.{Peer}
use Rattle.http_listen.specs.Conversations.{Act, Deed, acts_of, deeds_of, Conversation, Steps, Stands, IsHeld, IsTalking, Puts}
use Rattle.http_listen.specs.Goes.{IsThere, Holds, IsOver, Ledger}
use Rattle.http_listen.specs.Marks.{Mark, at_opening, at_closing, marks_of}
use Rattle.http_listen.specs.Stays.{StandsAt, AllStand}
use Rattle.http_listen.specs.Talks.{Told}
use Rattle.http_listen.proofs.AllLemmas.{some_same, none_some, acts_of_here, acts_of_other}
use Rattle.http_listen.proofs.HeldLemmas.{stand_held}
use Rattle.http_listen.proofs.MarkLemmas.{marks_of_here, marks_of_other}
use Rattle.http_listen.proofs.StepLemmas.{steps_none, talking_on, talking_held}

module _ {S : Type 0} (told : S → Option Told) where
  -- what holds of a connection in its conversation holds then, if this does
  abbrev pub Carries : (peer : Peer S) (whole : Type 0) (now : Peer S) (rests : Type 0) → Type 0
  Carries peer whole now rests = (first : Option Told) (acts : List Act) → IsHeld told first acts peer → (whole → IsTalking told first acts peer)
      → IsHeld told first acts now × (rests → IsTalking told first acts now)

  -- One connection, in the same conversation.
  holds_on : (begun : ℕ) (deeds : List Deed) (marks : List (Mark S)) (peer now : Peer S) (whole rests : Type 0) → now.state.number ≡ peer.state.number
      → Carries peer whole now rests → Holds told begun deeds marks whole peer → Holds told begun deeds marks rests now
  holds_on begun deeds marks peer now whole rests number carries h =
      let moved = carries (told h.first) (acts_of peer.state.number deeds) h.held h.talks in
      record {
        first = h.first;
        within = subst (λ (n : ℕ). (0 < n) × (n ≤ begun)) (sym number) h.within;
        marked = subst (λ (n : ℕ). marks_of n marks ≡ at_opening n h.first ∷ []) (sym number) h.marked;
        held = subst (λ (n : ℕ). IsHeld told (told h.first) (acts_of n deeds) now) (sym number) moved.0;
        talks = λ w. subst (λ (n : ℕ). IsTalking told (told h.first) (acts_of n deeds) now) (sym number) (moved.1 w);
      }

  -- No connections.
  pub ledger_none : (places : ℕ → Option (Peer S)) → ((key : ℕ) → places key ≡ None) → Ledger told 0 [] [] places None ⊤
  ledger_none places none = record {
    peers = λ key peer at. absurd (none_some (sym (none key) ∙ at));
    taken = λ peer at. absurd (none_some at);
    apart = λ key other peer neighbour at. absurd (none_some (sym (none key) ∙ at));
    alone = λ key peer other at. absurd (none_some (sym (none key) ∙ at));
    all = λ number pos le. absurd (lt_irrefl 0 (omega (arith, pos, le)));
    none = λ number above. (refl, refl);
  }

  -- Connections whose streams and bytes are the same.
  module _ (begun : ℕ) (deeds : List Deed) (marks : List (Mark S)) (old new : ℕ → Option (Peer S)) (hand : Option (Peer S)) (whole : Type 0)
      (stand : AllStand old new) (l : Ledger told begun deeds marks old hand whole) where
    was_at : (before : Option (Peer S)) (now : Peer S) → StandsAt before (Some now) → (peer : Peer S) × (before ≡ Some peer) × Stands peer now
    was_at None now s = absurd s
    was_at (Some peer) now s = (peer, refl, s)

    is_at : (peer : Peer S) (after : Option (Peer S)) → StandsAt (Some peer) after → (now : Peer S) × (after ≡ Some now) × Stands peer now
    is_at peer None s = absurd s
    is_at peer (Some now) s = (now, refl, s)

    before_of : (key : ℕ) (now : Peer S) → new key ≡ Some now → (peer : Peer S) × (old key ≡ Some peer) × Stands peer now
    before_of key now at = was_at (old key) now (subst (λ (x : Option (Peer S)). StandsAt (old key) x) at (stand key))

    after_of : (key : ℕ) (peer : Peer S) → old key ≡ Some peer → (now : Peer S) × (new key ≡ Some now) × Stands peer now
    after_of key peer at = is_at peer (new key) (subst (λ (x : Option (Peer S)). StandsAt x (new key)) at (stand key))

    there_then : (number : ℕ) → IsThere number old hand → IsThere number new hand
    there_then number t = by t.there
      where
        by : ((key : ℕ) × (old key ≡ Some t.peer)) ⊎ (hand ≡ Some t.peer) → IsThere number new hand
        by (inl at) = let now = after_of at.0 t.peer at.1 in
            record { peer = now.0; there = inl (at.0, now.1); number_is = now.2.number ∙ t.number_is }
        by (inr at) = record { peer = t.peer; there = inr at; number_is = t.number_is }

    pub ledger_stand : Ledger told begun deeds marks new hand whole
    ledger_stand = record {
      peers = λ key now at.
          let was = before_of key now at in
          holds_on begun deeds marks was.0 now _ _ was.2.number (λ first acts h t. stand_held told first acts was.0 now was.2 h t) (l.peers key was.0 was.1);
      taken = l.taken;
      apart = λ key other now neighbour here there e.
          let one = before_of key now here in
          let two = before_of other neighbour there in
          l.apart key other one.0 two.0 one.1 two.1 (sym one.2.number ∙ e ∙ two.2.number);
      alone = λ key now other at out e. let was = before_of key now at in l.alone key was.0 other was.1 out (sym was.2.number ∙ e);
      all = λ number pos le. ⊎_elim (λ t. inl (there_then number t)) (λ o. inr o) (l.all number pos le);
      none = l.none;
    }

  -- A connection is taken out.
  module _ (begun : ℕ) (deeds : List Deed) (marks : List (Mark S)) (old new : ℕ → Option (Peer S)) (key : ℕ) (peer : Peer S)
      (here : old key ≡ Some peer) (none : new key ≡ None) (others : (other : ℕ) → other ≢ key → new other ≡ old other)
      (l : Ledger told begun deeds marks old None ⊤) where
    differs : (other : ℕ) (x : Peer S) → new other ≡ Some x → other ≢ key
    differs other x at e = none_some (sym none ∙ ap new (sym e) ∙ at)

    was : (other : ℕ) (x : Peer S) → new other ≡ Some x → old other ≡ Some x
    was other x at = sym (others other (differs other x at)) ∙ at

    there_out : (number : ℕ) → IsThere number old None → IsThere number new (Some peer)
    there_out number t = by t.there
      where
        at_key : (other : ℕ) → old other ≡ Some t.peer → (b : Bool) → nat_eq other key ≡ b → IsThere number new (Some peer)
        at_key other at true e =
            record { peer = t.peer; there = inr (sym here ∙ ap old (sym (eqb-true other key e)) ∙ at); number_is = t.number_is }
        at_key other at false e =
            record { peer = t.peer; there = inl (other, others other (eqb-false other key e) ∙ at); number_is = t.number_is }

        by : ((other : ℕ) × (old other ≡ Some t.peer)) ⊎ (None ≡ Some t.peer) → IsThere number new (Some peer)
        by (inl at) = at_key at.0 at.1 (nat_eq at.0 key) refl
        by (inr at) = absurd (none_some at)

    pub ledger_take : Ledger told begun deeds marks new (Some peer) (peer.state.drops ≡ None)
    ledger_take = record {
      peers = λ other x at. l.peers other x (was other x at);
      taken = λ x at.
          subst (λ (y : Peer S). Holds told begun deeds marks (peer.state.drops ≡ None) y) (some_same at) (l.peers key peer here);
      apart = λ one two x y p q e. l.apart one two x y (was one x p) (was two y q) e;
      alone = λ other x y at out e.
          differs other x at (l.apart other key x peer (was other x at) here (e ∙ ap (λ (k : Peer S). k.state.number) (sym (some_same out))));
      all = λ number pos le. ⊎_elim (λ t. inl (there_out number t)) (λ o. inr o) (l.all number pos le);
      none = l.none;
    }

  -- It is put at a key.
  module _ (begun : ℕ) (deeds : List Deed) (marks : List (Mark S)) (old new : ℕ → Option (Peer S)) (key : ℕ) (peer : Peer S)
      (free : old key ≡ None) (puts : Puts old key peer new)
      (l : Ledger told begun deeds marks old (Some peer) (peer.state.drops ≡ None)) where
    either : (other : ℕ) (x : Peer S) → new other ≡ Some x → ((other ≡ key) × (peer ≡ x)) ⊎ (old other ≡ Some x)
    either other x at = by (nat_eq other key) refl
      where
        by : (b : Bool) → nat_eq other key ≡ b → ((other ≡ key) × (peer ≡ x)) ⊎ (old other ≡ Some x)
        by true e = let same = eqb-true other key e in inl (same, some_same (sym puts.here ∙ ap new (sym same) ∙ at))
        by false e = inr (sym (puts.others other (eqb-false other key e)) ∙ at)

    peers_in : (other : ℕ) (x : Peer S) → ((other ≡ key) × (peer ≡ x)) ⊎ (old other ≡ Some x) → Holds told begun deeds marks (x.state.drops ≡ None) x
    peers_in other x (inl p) = subst (λ (y : Peer S). Holds told begun deeds marks (y.state.drops ≡ None) y) p.1 (l.taken peer refl)
    peers_in other x (inr at) = l.peers other x at

    apart_in : (one two : ℕ) (x y : Peer S) → ((one ≡ key) × (peer ≡ x)) ⊎ (old one ≡ Some x) → ((two ≡ key) × (peer ≡ y)) ⊎ (old two ≡ Some y)
        → x.state.number ≡ y.state.number → one ≡ two
    apart_in one two x y (inl p) (inl q) e = p.0 ∙ sym q.0
    apart_in one two x y (inl p) (inr q) e = absurd (l.alone two y peer q refl (sym e ∙ ap (λ (k : Peer S). k.state.number) (sym p.1)))
    apart_in one two x y (inr p) (inl q) e = absurd (l.alone one x peer p refl (e ∙ ap (λ (k : Peer S). k.state.number) (sym q.1)))
    apart_in one two x y (inr p) (inr q) e = l.apart one two x y p q e

    there_in : (number : ℕ) → IsThere number old (Some peer) → IsThere number new None
    there_in number t = by t.there
      where
        by : ((other : ℕ) × (old other ≡ Some t.peer)) ⊎ (Some peer ≡ Some t.peer) → IsThere number new None
        by (inl at) = record {
          peer = t.peer;
          there = inl (at.0, puts.others at.0 (λ e. none_some (sym free ∙ ap old (sym e) ∙ at.1)) ∙ at.1);
          number_is = t.number_is;
        }
        by (inr at) = record { peer = t.peer; there = inl (key, puts.here ∙ at); number_is = t.number_is }

    pub ledger_put : Ledger told begun deeds marks new None ⊤
    ledger_put = record {
      peers = λ other x at. peers_in other x (either other x at);
      taken = λ x at. absurd (none_some at);
      apart = λ one two x y p q e. apart_in one two x y (either one x p) (either two y q) e;
      alone = λ other x y at out e. absurd (none_some out);
      all = λ number pos le. ⊎_elim (λ t. inl (there_in number t)) (λ o. inr o) (l.all number pos le);
      none = l.none;
    }

  -- Something is done for the connection that is taken out, or told of it, and of no other.
  module _ (begun : ℕ) (deeds done : List Deed) (marks more : List (Mark S)) (places : ℕ → Option (Peer S)) (peer : Peer S) (whole : Type 0)
      (l : Ledger told begun deeds marks places (Some peer) whole)
      (others : (number : ℕ) → peer.state.number ≢ number
      → (acts_of number done ≡ acts_of number deeds) × (marks_of number more ≡ marks_of number marks)) where
    peers_then : (key : ℕ) (x : Peer S) → places key ≡ Some x → Holds told begun done more (x.state.drops ≡ None) x
    peers_then key x at =
        let h = l.peers key x at in
        let same = others x.state.number (λ e. l.alone key x peer at refl (sym e)) in
        record {
          first = h.first;
          within = h.within;
          marked = same.1 ∙ h.marked;
          held = subst (λ (a : List Act). IsHeld told (told h.first) a x) (sym same.0) h.held;
          talks = λ o. subst (λ (a : List Act). IsTalking told (told h.first) a x) (sym same.0) (h.talks o);
        }

    within : (0 < peer.state.number) × (peer.state.number ≤ begun)
    within = (l.taken peer refl).within

    no_other : (number : ℕ) → (number ≡ 0) ⊎ (begun < number) → peer.state.number ≢ number
    no_other number (inl zero_is) e = lt_irrefl 0 (subst (λ (n : ℕ). 0 < n) (e ∙ zero_is) within.0)
    no_other number (inr above) e = lt_irrefl number (lt_of_le_of_lt (subst (λ (n : ℕ). n ≤ begun) e within.1) above)

    none_then : (number : ℕ) → (number ≡ 0) ⊎ (begun < number) → (acts_of number done ≡ []) × (marks_of number more ≡ [])
    none_then number out =
        let same = others number (no_other number out) in
        let none = l.none number out in
        (same.0 ∙ none.0, same.1 ∙ none.1)

    over_then : (number : ℕ) → peer.state.number ≢ number → IsOver told deeds marks number → IsOver told done more number
    over_then number differs o =
        let same = others number differs in
        record {
          first = o.first;
          last = o.last;
          marked = same.1 ∙ o.marked;
          talk = subst (λ (a : List Act). Conversation (told o.first) a (told o.last)) (sym same.0) o.talk;
        }

    -- It is still taken out.
    module _ (now : Peer S) (rests : Type 0) (number_is : now.state.number ≡ peer.state.number) (holds : Holds told begun done more rests now) where
      all_on : (number : ℕ) → IsThere number places (Some peer) ⊎ IsOver told deeds marks number
          → IsThere number places (Some now) ⊎ IsOver told done more number
      all_on number (inl t) = by t.there
        where
          by : ((key : ℕ) × (places key ≡ Some t.peer)) ⊎ (Some peer ≡ Some t.peer) → IsThere number places (Some now) ⊎ IsOver told done more number
          by (inl at) = inl (record { peer = t.peer; there = inl at; number_is = t.number_is })
          by (inr at) = inl (
              record { peer = now; there = inr refl; number_is = number_is ∙ ap (λ (k : Peer S). k.state.number) (some_same at) ∙ t.number_is }
              )
      all_on number (inr o) = by (nat_eq peer.state.number number) refl
        where
          by : (b : Bool) → nat_eq peer.state.number number ≡ b → IsThere number places (Some now) ⊎ IsOver told done more number
          by true e = inl (record { peer = now; there = inr refl; number_is = number_is ∙ eqb-true peer.state.number number e })
          by false e = inr (over_then number (eqb-false peer.state.number number e) o)

      ledger_on : Ledger told begun done more places (Some now) rests
      ledger_on = record {
        peers = peers_then;
        taken = λ x at. subst (λ (y : Peer S). Holds told begun done more rests y) (some_same at) holds;
        apart = l.apart;
        alone = λ key x other at out e.
            l.alone key x peer at refl (e ∙ ap (λ (k : Peer S). k.state.number) (sym (some_same out)) ∙ number_is);
        all = λ number pos le. all_on number (l.all number pos le);
        none = none_then;
      }

    -- It is over.
    module _ (over : IsOver told done more peer.state.number) where
      all_over : (number : ℕ) → IsThere number places (Some peer) ⊎ IsOver told deeds marks number
          → IsThere number places None ⊎ IsOver told done more number
      all_over number (inl t) = by t.there
        where
          by : ((key : ℕ) × (places key ≡ Some t.peer)) ⊎ (Some peer ≡ Some t.peer) → IsThere number places None ⊎ IsOver told done more number
          by (inl at) = inl (record { peer = t.peer; there = inl at; number_is = t.number_is })
          by (inr at) = inr (
              subst (λ (n : ℕ). IsOver told done more n) (ap (λ (k : Peer S). k.state.number) (some_same at) ∙ t.number_is) over
              )
      all_over number (inr o) = by (nat_eq peer.state.number number) refl
        where
          by : (b : Bool) → nat_eq peer.state.number number ≡ b → IsThere number places None ⊎ IsOver told done more number
          by true e = inr (subst (λ (n : ℕ). IsOver told done more n) (eqb-true peer.state.number number e) over)
          by false e = inr (over_then number (eqb-false peer.state.number number e) o)

      ledger_off : Ledger told begun done more places None ⊤
      ledger_off = record {
        peers = peers_then;
        taken = λ x at. absurd (none_some at);
        apart = l.apart;
        alone = λ key x other at out e. absurd (none_some out);
        all = λ number pos le. all_over number (l.all number pos le);
        none = none_then;
      }

  -- It has its turn.
  pub ledger_turn : (begun : ℕ) (deeds : List Deed) (marks : List (Mark S)) (places : ℕ → Option (Peer S)) (peer now : Peer S) (whole rests : Type 0)
      → now.state.number ≡ peer.state.number → Carries peer whole now rests
      → Ledger told begun deeds marks places (Some peer) whole → Ledger told begun deeds marks places (Some now) rests
  ledger_turn begun deeds marks places peer now whole rests number carries l =
      ledger_on begun deeds deeds marks marks places peer whole l (λ n differs. (refl, refl)) now rests number
      (holds_on begun deeds marks peer now whole rests number carries (l.taken peer refl))

  -- Acts of it.
  pub ledger_acts : (begun : ℕ) (deeds : List Deed) (marks : List (Mark S)) (places : ℕ → Option (Peer S)) (peer now : Peer S) (acts : List Act)
      (rests : Type 0)
      → Steps told peer acts rests now
      → Ledger told begun deeds marks places (Some peer) ⊤ → Ledger told begun (deeds ++ deeds_of peer.state.number acts) marks places (Some now) rests
  ledger_acts begun deeds marks places peer now acts rests s l =
      let n = peer.state.number in
      let all = deeds ++ deeds_of n acts in
      let h = l.taken peer refl in
      let held : IsHeld told (told h.first) (acts_of n all) now =
      subst (λ (a : List Act). IsHeld told (told h.first) a now) (sym (acts_of_here n deeds acts))
      (talking_held told (told h.first) (acts_of n deeds) acts rests peer now (h.talks tt) s) in
      let talks : rests → IsTalking told (told h.first) (acts_of n all) now =
      λ r. subst (λ (a : List Act). IsTalking told (told h.first) a now) (sym (acts_of_here n deeds acts))
      (talking_on told (told h.first) (acts_of n deeds) acts rests peer now (h.talks tt) s r) in
      ledger_on begun deeds all marks marks places peer ⊤ l (λ other differs. (acts_of_other n other deeds acts differs, refl)) now rests s.number
      (
      record {
        first = h.first;
        within = subst (λ (m : ℕ). (0 < m) × (m ≤ begun)) (sym s.number) h.within;
        marked = subst (λ (m : ℕ). marks_of m marks ≡ at_opening m h.first ∷ []) (sym s.number) h.marked;
        held = subst (λ (m : ℕ). IsHeld told (told h.first) (acts_of m all) now) (sym s.number) held;
        talks = λ r. subst (λ (m : ℕ). IsTalking told (told h.first) (acts_of m all) now) (sym s.number) (talks r);
      }
      )

  -- It is closed.
  pub ledger_close : (begun : ℕ) (deeds : List Deed) (marks : List (Mark S)) (places : ℕ → Option (Peer S)) (peer : Peer S) (whole : Type 0) (last : S)
      → ((first : Option Told) (acts : List Act) → IsHeld told first acts peer → Conversation first acts (told last))
      → Ledger told begun deeds marks places (Some peer) whole → Ledger told begun deeds (marks ++ at_closing peer.state.number last ∷ []) places None ⊤
  ledger_close begun deeds marks places peer whole last talk l =
      let n = peer.state.number in
      let mark : Mark S = at_closing n last in
      let h = l.taken peer refl in
      ledger_off begun deeds deeds marks (marks ++ mark ∷ []) places peer whole l (λ other differs. (refl, marks_of_other other marks mark differs))
      (
      record {
        first = h.first;
        last = last;
        marked = marks_of_here marks mark ∙ ap (λ (m : List (Mark S)). m ++ mark ∷ []) h.marked;
        talk = talk (told h.first) (acts_of n deeds) h.held;
      }
      )

  -- A new connection is opened.
  module _ (begun : ℕ) (deeds : List Deed) (marks : List (Mark S)) (places : ℕ → Option (Peer S)) (peer : Peer S) (number : peer.state.number ≡ begun + 1)
      (talking : IsTalking told (told peer.stream) [] peer) (l : Ledger told begun deeds marks places None ⊤) where
    abbrev mark : Mark S
    mark = at_opening peer.state.number peer.stream

    abbrev opened : List (Mark S)
    opened = marks ++ mark ∷ []

    none_yet : (acts_of peer.state.number deeds ≡ []) × (marks_of peer.state.number marks ≡ [])
    none_yet = l.none peer.state.number (inr (omega (arith, number)))

    not_yet : (other : ℕ) → other ≤ begun → peer.state.number ≢ other
    not_yet other le e = lt_irrefl begun (omega (arith, number, e, le))

    peers_new : (key : ℕ) (x : Peer S) → places key ≡ Some x → Holds told (begun + 1) deeds opened (x.state.drops ≡ None) x
    peers_new key x at =
        let h = l.peers key x at in
        record {
          first = h.first;
          within = (h.within.0, omega (arith, h.within.1));
          marked = marks_of_other x.state.number marks mark (not_yet x.state.number h.within.1) ∙ h.marked;
          held = h.held;
          talks = h.talks;
        }

    holds_new : Holds told (begun + 1) deeds opened ⊤ peer
    holds_new = record {
      first = peer.stream;
      within = (omega (arith, number), omega (arith, number));
      marked = marks_of_here marks mark ∙ ap (λ (m : List (Mark S)). m ++ mark ∷ []) none_yet.1;
      held = subst (λ (a : List Act). IsHeld told (told peer.stream) a peer) (sym none_yet.0)
          (talking_held told (told peer.stream) [] [] ⊤ peer peer talking (steps_none told peer ⊤));
      talks = λ w. subst (λ (a : List Act). IsTalking told (told peer.stream) a peer) (sym none_yet.0) talking;
    }

    all_new : (other : ℕ) → 0 < other → (other ≡ begun + 1) ⊎ (other < begun + 1) → IsThere other places (Some peer) ⊎ IsOver told deeds opened other
    all_new other pos (inl e) = inl (record { peer = peer; there = inr refl; number_is = number ∙ sym e })
    all_new other pos (inr lt) = by (l.all other pos le)
      where
        le : other ≤ begun
        le = omega (arith, lt)

        there_is : (t : IsThere other places None) → ((key : ℕ) × (places key ≡ Some t.peer)) ⊎ (None ≡ Some t.peer) → IsThere other places (Some peer)
        there_is t (inl at) = record { peer = t.peer; there = inl at; number_is = t.number_is }
        there_is t (inr at) = absurd (none_some at)

        by : IsThere other places None ⊎ IsOver told deeds marks other → IsThere other places (Some peer) ⊎ IsOver told deeds opened other
        by (inl t) = inl (there_is t t.there)
        by (inr o) = inr (
            record { first = o.first; last = o.last; marked = marks_of_other other marks mark (not_yet other le) ∙ o.marked; talk = o.talk }
            )

    none_new : (other : ℕ) → (other ≡ 0) ⊎ (begun + 1 < other) → (acts_of other deeds ≡ []) × (marks_of other opened ≡ [])
    none_new other (inl e) =
        let none = l.none other (inl e) in
        (none.0, marks_of_other other marks mark (λ same. lt_irrefl 0 (omega (arith, number, same, e))) ∙ none.1)
    none_new other (inr above) =
        let none = l.none other (inr (omega (arith, above))) in
        (none.0, marks_of_other other marks mark (λ same. lt_irrefl 0 (omega (arith, number, same, above))) ∙ none.1)

    pub ledger_new : Ledger told (begun + 1) deeds opened places (Some peer) ⊤
    ledger_new = record {
      peers = peers_new;
      taken = λ x at. subst (λ (y : Peer S). Holds told (begun + 1) deeds opened ⊤ y) (some_same at) holds_new;
      apart = l.apart;
      alone = λ key x other at out e.
          not_yet x.state.number (l.peers key x at).within.1 (ap (λ (k : Peer S). k.state.number) (some_same out) ∙ sym e);
      all = λ other pos le. all_new other pos (eq-or-lt_of_le le);
      none = none_new;
    }
