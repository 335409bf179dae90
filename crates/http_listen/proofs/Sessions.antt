-- All connections of a listener, from the first turn on.
use Rattle.std.proofs.Common.{◌≡◌, ℕ, ◌+◌, ◌<◌, ◌≤◌, List, [], ◌∷◌, ◌++◌, None, Some, refl, sym, subst, ◌∙◌, inl, inr}
use Rattle.std.proofs.Common.{false, lt_of_le_of_lt, eq-zero-or-pos}
use Rattle.std.proofs.lemmas.Bool.{cases_lt}
use Rattle.std.specs.Prelude.{◌⊎◌, ⊤}
use Rattle.std.specs.declared.option.Option.{Option}
use Rattle.http_listen.specs.declared.peers.Peer.{Peer}
use Rattle.http_listen.specs.Conversations.{Act, Deed, acts_of, deeds_of, Follows}
use Rattle.http_listen.specs.Courses.{Course, course_of, fresh}
use Rattle.http_listen.specs.Goes.{Acts, AreOver, Goes, IsOver, IsThere, Ledger, Passes}
use Rattle.http_listen.specs.Marks.{Mark, at_opening, Adds}
use Rattle.http_listen.specs.Orders.{AreInOrder}
use Rattle.http_listen.specs.Talks.{Told}
use Rattle.http_listen.proofs.AllLemmas.{none_some}
use Rattle.http_listen.proofs.Ledgers.{ledger_none, ledger_new}
use Rattle.http_listen.proofs.MarkLemmas.{adds_none, adds_both}
use Rattle.http_listen.proofs.StepLemmas.{talking_new}

module _ {S : Type 0} (told : S → Option Told) where
  -- So many connections were opened, this was done for them, and a log was told more.
  pub record Session (begun : ℕ) (deeds : List Deed) (before after : Option (List (Mark S))) (places : ℕ → Option (Peer S)) : Type 0 where
    pub marks : List (Mark S)
    pub adds : Adds before marks after
    pub ledger : Ledger told begun deeds marks places None ⊤

  -- None was.
  pub session_none : {before : Option (List (Mark S))} {places : ℕ → Option (Peer S)} → ((key : ℕ) → places key ≡ None) → Session 0 [] before before places
  session_none {before} {places} none = record { marks = []; adds = adds_none before; ledger = ledger_none told places none }

  -- Turns without an act.
  pub session_goes : {begun : ℕ} {deeds : List Deed} {before between after : Option (List (Mark S))} {old new : ℕ → Option (Peer S)}
      → Session begun deeds before between old → Goes told between old after new → Session begun deeds before after new
  session_goes {begun} {deeds} {before} {between} {after} s goes = record {
    marks = s.marks ++ goes.more;
    adds = adds_both before between after s.marks goes.more s.adds goes.adds;
    ledger = goes.goes begun deeds s.marks s.ledger;
  }

  -- Acts of a connection that was taken out.
  pub session_acts : {begun : ℕ} {deeds : List Deed} {before between taken after : Option (List (Mark S))} {old mid new : ℕ → Option (Peer S)}
      (peer : Peer S) (acts : List Act) → Session begun deeds before between old → Passes told between old None ⊤ taken mid (Some peer) ⊤
      → Acts told taken mid peer acts after new → Session begun (deeds ++ deeds_of peer.state.number acts) before after new
  session_acts {begun} {deeds} {before} {between} {taken} {after} peer acts s p a = record {
    marks = (s.marks ++ p.more) ++ a.more;
    adds = adds_both before taken after (s.marks ++ p.more) a.more (adds_both before between taken s.marks p.more s.adds p.adds) a.adds;
    ledger = a.goes begun deeds (s.marks ++ p.more) (p.goes begun deeds s.marks s.ledger);
  }

  -- The first acts of a new connection.
  pub session_new : {begun : ℕ} {deeds : List Deed} {before between found opened after : Option (List (Mark S))} {old mid new : ℕ → Option (Peer S)}
      (peer : Peer S) (acts : List Act) (stream : S) → Session begun deeds before between old → Goes told between old found mid
      → peer.state.number ≡ begun + 1 → peer.stream ≡ stream → peer.connection.input ≡ [] → peer.connection.output ≡ [] → course_of peer ≡ fresh
      → peer.state.ended ≡ false → Adds found (at_opening (begun + 1) stream ∷ []) opened → Acts told opened mid peer acts after new
      → Session (begun + 1) (deeds ++ deeds_of peer.state.number acts) before after new
  session_new {begun} {deeds} {before} {between} {found} {opened} {after} {old} {mid} {new} peer acts stream s p number is input output course going adds a =
      let t = session_goes s p in
      let mark : Mark S = at_opening peer.state.number peer.stream in
      let adds_it : Adds found (mark ∷ []) opened =
      subst (λ (n : ℕ). Adds found (at_opening n peer.stream ∷ []) opened) (sym number)
      (subst (λ (x : S). Adds found (at_opening (begun + 1) x ∷ []) opened) (sym is) adds) in
      let open_one = ledger_new told begun deeds t.marks mid peer number (talking_new told peer input output course going) t.ledger in
      record {
        marks = (t.marks ++ mark ∷ []) ++ a.more;
        adds = adds_both before opened after (t.marks ++ mark ∷ []) a.more (adds_both before found opened t.marks (mark ∷ []) t.adds adds_it) a.adds;
        ledger = a.goes (begun + 1) deeds (t.marks ++ mark ∷ []) open_one;
      }

  -- All are closed.
  module _ (begun : ℕ) (deeds : List Deed) (before after : Option (List (Mark S))) (places : ℕ → Option (Peer S))
      (none : (key : ℕ) → places key ≡ None) (s : Session begun deeds before after places) where
    gone : (number : ℕ) → (t : IsThere number places None) → ((key : ℕ) × (places key ≡ Some t.peer)) ⊎ (None ≡ Some t.peer) → ⊥
    gone number t (inl at) = none_some (sym (none at.0) ∙ at.1)
    gone number t (inr at) = none_some at

    over : (number : ℕ) → IsThere number places None ⊎ IsOver told deeds s.marks number → IsOver told deeds s.marks number
    over number (inl t) = absurd (gone number t t.there)
    over number (inr o) = o

    each_over : (number : ℕ) → 0 < number → number ≤ begun → IsOver told deeds s.marks number
    each_over number pos le = over number (s.ledger.all number pos le)

    pub are_over : AreOver told begun deeds before after
    are_over = record { marks = s.marks; adds = s.adds; each = each_over; none = s.ledger.none }

    none_left : (number : ℕ) → (number ≡ 0) ⊎ (begun < number) → (course : Course) × Follows fresh (acts_of number deeds) course
    none_left number out = (fresh, subst (λ (a : List Act). Follows fresh a fresh) (sym (s.ledger.none number out).0) (inl refl))

    left_by : (number : ℕ) → (number ≡ 0) ⊎ (0 < number) → (begun < number) ⊎ (number ≤ begun)
        → (course : Course) × Follows fresh (acts_of number deeds) course
    left_by number (inl e) far = none_left number (inl e)
    left_by number (inr pos) (inl above) = none_left number (inr above)
    left_by number (inr pos) (inr le) = let o = each_over number pos le in (o.talk.course, o.talk.follows)

    pub in_order : (count : ℕ) → begun ≤ count → AreInOrder count deeds
    in_order count le = record {
      each = λ number. left_by number (eq-zero-or-pos number) (cases_lt begun number);
      theirs = λ number above. (s.ledger.none number (inr (lt_of_le_of_lt le above))).0;
    }
