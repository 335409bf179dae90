-- Connections in their conversations, as they take turns and as they end.
use Rattle.std.proofs.Common.{false, ◌≡◌, ℕ, List, [], ◌++◌, None, Some, refl, sym, ap, subst, ◌∙◌, append_assoc, append-nil}
use Rattle.std.proofs.Common.{take, drop, true≢false, inl, inr}
use Rattle.std.specs.Prelude.{◌⊎◌, ⊤, is_some}
use Rattle.std.specs.declared.option.Option.{Option}
use Rattle.http_listen.specs.declared.peers.Peer.{Peer}
use Rattle.http_listen.specs.Conversations.{Act, asked, replied, AreDue, Conversation, Steps, Stands, Ends, IsHeld, IsTalking}
use Rattle.http_listen.specs.NoMemory.{no_memory}
use Rattle.http_listen.specs.Talks.{Told, Grows, Moves, given_by}
use Rattle.http_listen.proofs.StepLemmas.{due_later, steps_stand, talking_on, talking_held}
use Rattle.http_listen.proofs.TalkLemmas.{moves_none, moves_both, moves_cut, moves_read, moves_sent, moves_added, moves_stay}

module _ {S : Type 0} (told : S → Option Told) where
  -- A turn of one that has ended.
  pub ended_held : (first : Option Told) (acts : List Act) (whole : Type 0) (old new : Peer S) → IsHeld told first acts old → Steps told old [] whole new
      → (new.state.drops ≡ None → ⊥) → IsHeld told first acts new
  ended_held first acts whole old new h s ended =
      let before : Moves first [] (asked acts ++ h.talk.rest) (replied acts ++ h.talk.refusal) (told old.stream) (old.connection.output ++ h.cut) =
      subst (λ (l : List ℕ). Moves first [] (asked acts ++ h.talk.rest) (replied acts ++ h.talk.refusal) (told old.stream) l) h.waits h.talk.moved in
      let both = moves_cut first (told old.stream) (told new.stream) [] old.connection.output h.cut (new.connection.output ++ s.cut)
      (asked acts ++ h.talk.rest) s.given
      (replied acts ++ h.talk.refusal) before s.moved in
      record {
        talk = record {
          rest = h.talk.rest ++ s.given;
          refusal = h.talk.refusal;
          waits = (new.connection.output ++ s.cut) ++ h.cut;
          moved = subst (λ (l : List ℕ). Moves first [] l (replied acts ++ h.talk.refusal) (told new.stream) ((new.connection.output ++ s.cut) ++ h.cut))
              (append_assoc (asked acts) h.talk.rest s.given) both;
          refused = h.talk.refused;
          course = h.talk.course;
          follows = h.talk.follows;
          due = due_later (given_by first) (told old.stream) (told new.stream) acts
              (moves_stay (told old.stream) (told new.stream) old.connection.output s.given [] (new.connection.output ++ s.cut) s.moved) h.talk.due;
        };
        cut = s.cut ++ h.cut;
        waits = append_assoc new.connection.output s.cut h.cut;
        opened = λ o. absurd (ended o);
      }

  turn_by : {D : Type 0} (drops : Option D) (first : Option Told) (acts : List Act) (whole : Type 0) (old new : Peer S)
      → is_some old.state.drops ≡ is_some drops → (is_some drops ≡ false → IsTalking told first acts old) → IsHeld told first acts old
      → Steps told old [] whole new → IsHeld told first acts new
  turn_by None first acts whole old new e talks h s =
      subst (λ (a : List Act). IsHeld told first a new) (append-nil acts) (talking_held told first acts [] whole old new (talks refl) s)
  turn_by (Some d) first acts whole old new e talks h s =
      ended_held first acts whole old new h s (λ o. true≢false (sym e ∙ sym s.drops ∙ ap is_some o))

  none_again : {T : Type 0} (x : Option T) → is_some x ≡ false → x ≡ None
  none_again None e = refl
  none_again (Some y) e = absurd (true≢false e)

  -- A turn of one that is in the middle of its conversation unless it has ended.
  pub turn_held : (first : Option Told) (acts : List Act) (whole : Type 0) (old new : Peer S) → IsHeld told first acts old
      → (old.state.drops ≡ None → IsTalking told first acts old) → Steps told old [] whole new → IsHeld told first acts new
  turn_held first acts whole old new h talks s =
      turn_by old.state.drops first acts whole old new refl (λ e. talks (none_again old.state.drops e)) h s

  pub turn_talks : (first : Option Told) (acts : List Act) (whole : Type 0) (old new : Peer S)
      → (old.state.drops ≡ None → IsTalking told first acts old) → Steps told old [] whole new → whole × (old.state.drops ≡ None)
      → IsTalking told first acts new
  turn_talks first acts whole old new talks s w =
      subst (λ (a : List Act). IsTalking told first a new) (append-nil acts) (talking_on told first acts [] whole old new (talks w.1) s w.0)

  -- Nothing of it was sent.
  pub ends_none : (peer : Peer S) → Ends told peer peer
  ends_none peer = record {
    cut = [];
    refusal = [];
    moved = subst (λ (l : List ℕ). Moves (told peer.stream) peer.connection.output [] [] (told peer.stream) l) (sym (append-nil peer.connection.output))
        (moves_none (told peer.stream) peer.connection.output);
    refused = inl refl;
  }

  -- The reply for want of memory couldn't be sent.
  pub ends_failed : (old new : Peer S) → Grows (told old.stream) [] [] (told new.stream) → new.connection.output ≡ old.connection.output → Ends told old new
  ends_failed old new grows output = record {
    cut = [];
    refusal = [];
    moved = subst (λ (l : List ℕ). Moves (told old.stream) old.connection.output [] [] (told new.stream) l)
        (sym output ∙ sym (append-nil new.connection.output))
        (moves_read (told old.stream) (told new.stream) old.connection.output [] grows);
    refused = inl refl;
  }

  -- These first bytes of it were.
  pub ends_sent : (old new : Peer S) (n : ℕ) (reply : List ℕ) → reply ≡ no_memory → Grows (told old.stream) [] (take n reply) (told new.stream)
      → old.connection.output ≡ [] → new.connection.output ≡ old.connection.output → old.state.unsent ≡ None → Ends told old new
  ends_sent old new n reply same grows none output whole =
      let a = told old.stream in
      let b = told new.stream in
      let both : Moves a [] [] (reply ++ []) b (drop n reply) =
      moves_both a a b [] reply (drop n reply) [] [] reply [] (moves_added a [] reply) (moves_sent a b reply n grows) in
      let one : Moves a [] [] reply b (drop n reply) = subst (λ (l : List ℕ). Moves a [] [] l b (drop n reply)) (append-nil reply) both in
      let from : Moves a old.connection.output [] reply b (drop n reply) = subst (λ (l : List ℕ). Moves a l [] reply b (drop n reply)) (sym none) one in
      record {
        cut = drop n reply;
        refusal = reply;
        moved = subst (λ (l : List ℕ). Moves a old.connection.output [] reply b (l ++ drop n reply)) (sym (output ∙ none)) from;
        refused = inr (same, whole);
      }

  -- Then its output is dropped.
  pub ends_cleared : (old mid new : Peer S) → Ends told old mid → new.stream ≡ mid.stream → new.connection.output ≡ [] → Ends told old new
  ends_cleared old mid new e stream output = record {
    cut = mid.connection.output ++ e.cut;
    refusal = e.refusal;
    moved = subst (λ (s : S). Moves (told old.stream) old.connection.output [] e.refusal (told s)
        (new.connection.output ++ (mid.connection.output ++ e.cut))) (sym stream)
        (subst (λ (l : List ℕ). Moves (told old.stream) old.connection.output [] e.refusal (told mid.stream) (l ++ (mid.connection.output ++ e.cut)))
        (sym output) e.moved);
    refused = e.refused;
  }

  -- It had its conversation.
  talk_ends : (first : Option Told) (acts : List Act) (old new : Peer S) (h : IsHeld told first acts old) → old.state.drops ≡ None → (e : Ends told old new)
      → (e.refusal ≡ []) ⊎ ((e.refusal ≡ no_memory) × (old.state.unsent ≡ None))
      → (refusal : List ℕ) × (cut : List ℕ)
      × Moves first [] (asked acts ++ (h.talk.rest ++ [])) (replied acts ++ refusal) (told new.stream) (new.connection.output ++ cut)
      × ((refusal ≡ []) ⊎ (refusal ≡ no_memory))
  talk_ends first acts old new h is_open e (inl none) =
      let before : Moves first [] (asked acts ++ h.talk.rest) (replied acts ++ h.talk.refusal) (told old.stream) (old.connection.output ++ h.cut) =
      subst (λ (l : List ℕ). Moves first [] (asked acts ++ h.talk.rest) (replied acts ++ h.talk.refusal) (told old.stream) l) h.waits h.talk.moved in
      let then : Moves (told old.stream) old.connection.output [] [] (told new.stream) (new.connection.output ++ e.cut) =
      subst (λ (l : List ℕ). Moves (told old.stream) old.connection.output [] l (told new.stream) (new.connection.output ++ e.cut)) none e.moved in
      let both = moves_cut first (told old.stream) (told new.stream) [] old.connection.output h.cut (new.connection.output ++ e.cut)
      (asked acts ++ h.talk.rest) []
      (replied acts ++ h.talk.refusal) before then in (
        h.talk.refusal,
        e.cut ++ h.cut,
        subst (λ (l : List ℕ). Moves first [] l (replied acts ++ h.talk.refusal) (told new.stream) (new.connection.output ++ (e.cut ++ h.cut)))
            (append_assoc (asked acts) h.talk.rest [])
            (subst (λ (l : List ℕ). Moves first [] ((asked acts ++ h.talk.rest) ++ []) (replied acts ++ h.talk.refusal) (told new.stream) l)
            (append_assoc new.connection.output e.cut h.cut) both),
        h.talk.refused,
      )
  talk_ends first acts old new h is_open e (inr sent) =
      let facts = h.opened is_open in
      let waits : h.talk.waits ≡ old.connection.output =
      h.waits ∙ ap (λ (l : List ℕ). old.connection.output ++ l) (facts.1 sent.1) ∙ append-nil old.connection.output in
      let replies : replied acts ++ h.talk.refusal ≡ replied acts = ap (λ (l : List ℕ). replied acts ++ l) facts.0 ∙ append-nil (replied acts) in
      let before : Moves first [] (asked acts ++ h.talk.rest) (replied acts) (told old.stream) old.connection.output =
      subst (λ (l : List ℕ). Moves first [] (asked acts ++ h.talk.rest) l (told old.stream) old.connection.output) replies
      (subst (λ (l : List ℕ). Moves first [] (asked acts ++ h.talk.rest) (replied acts ++ h.talk.refusal) (told old.stream) l) waits h.talk.moved) in
      let given = asked acts ++ h.talk.rest in
      let both = moves_both first (told old.stream) (told new.stream) [] old.connection.output (new.connection.output ++ e.cut) given [] (replied acts)
      e.refusal
      before e.moved in (
        e.refusal,
        e.cut,
        subst (λ (l : List ℕ). Moves first [] l (replied acts ++ e.refusal) (told new.stream) (new.connection.output ++ e.cut))
            (append_assoc (asked acts) h.talk.rest []) both,
        inr sent.0,
      )

  due_ends : (first : Option Told) (acts : List Act) (old new : Peer S) (h : IsHeld told first acts old) → Ends told old new
      → AreDue (given_by first) (told new.stream) acts
  due_ends first acts old new h e = due_later (given_by first) (told old.stream) (told new.stream) acts
      (moves_stay (told old.stream) (told new.stream) old.connection.output [] e.refusal (new.connection.output ++ e.cut) e.moved) h.talk.due

  -- It is closed.
  pub end_closed : (first : Option Told) (acts : List Act) (old new : Peer S) → IsHeld told first acts old → old.state.drops ≡ None → Ends told old new
      → Conversation first acts (told new.stream)
  end_closed first acts old new h is_open e =
      let t = talk_ends first acts old new h is_open e e.refused in
      record {
        rest = h.talk.rest ++ [];
        refusal = t.0;
        waits = new.connection.output ++ t.1;
        moved = t.2;
        refused = t.3;
        course = h.talk.course;
        follows = h.talk.follows;
        due = due_ends first acts old new h e;
      }

  -- Or what its peer still sends is dropped.
  pub end_held : (first : Option Told) (acts : List Act) (old new : Peer S) → IsHeld told first acts old → old.state.drops ≡ None → Ends told old new
      → (new.state.drops ≡ None → ⊥) → IsHeld told first acts new
  end_held first acts old new h is_open e ended =
      let t = talk_ends first acts old new h is_open e e.refused in
      record {
        talk = record {
          rest = h.talk.rest ++ [];
          refusal = t.0;
          waits = new.connection.output ++ t.1;
          moved = t.2;
          refused = t.3;
          course = h.talk.course;
          follows = h.talk.follows;
          due = due_ends first acts old new h e;
        };
        cut = t.1;
        waits = refl;
        opened = λ o. absurd (ended o);
      }

  -- A connection whose stream and bytes are the same.
  pub stand_held : (first : Option Told) (acts : List Act) (old new : Peer S) → Stands old new → IsHeld told first acts old
      → (old.state.drops ≡ None → IsTalking told first acts old)
      → IsHeld told first acts new × (new.state.drops ≡ None → IsTalking told first acts new)
  stand_held first acts old new s h talks =
      let steps : Steps told old [] ⊤ new = steps_stand told old new ⊤ s in (
        turn_held first acts ⊤ old new h talks steps,
        λ o. turn_talks first acts ⊤ old new talks steps (tt, sym s.drops ∙ o),
      )
