-- Replies that wait.
use Rattle.std.proofs.Common.{◌≡◌, ◌⊎◌, inl, inr, ℕ, Bool, Option, None, Some, Result, Ok, Err, true, false, cond, refl, ap, ◌∙◌}
use Rattle.std.specs.Prelude.{OnOk, ltb}
use Rattle.std.specs.declared.alloc.AllocError.{AllocError}
use Rattle.http_requests.specs.Requests.{RequestView}
use Rattle.http_requests.specs.declared.frames.Next.{Next}
use Rattle.http_serve.specs.Reply.{ReplyView}
use Rattle.http_serve.specs.declared.connection.Answer.{Answer}
use Rattle.http_serve.specs.declared.handlers.Hold.{Hold}
use Rattle.http_listen.specs.Connections.{ComesTo}
use Rattle.http_listen.specs.Holds.{HoldsFor, hold_after}
use Rattle.http_listen.specs.LetsGo.{hold_of, KeepsHolds, LetsGo}
use Rattle.http_listen.specs.declared.peers.Peer.{Peer}

-- if memory runs out, nothing was asked of the handler
pub waits_either : {S : Type 0} (replies : S → RequestView → ReplyView → S → Type 0) (holds : S → Option Hold) (result : Result Answer AllocError)
    (found : Next) (old new : S) (hold : Option Hold) (fact : Type 0) → ComesTo replies result old new → OnOk result (HoldsFor holds found new hold)
    → fact → (new ≡ old) ⊎ (HoldsFor holds found new hold × fact)
waits_either replies holds (Ok answer) found old new hold fact comes is so = inr (is, so)
waits_either replies holds (Err fault) found old new hold fact comes is so = inl (comes.4 false).0

-- ---- which replies no longer wait

after_twice : (confirmed : ℕ) (hold : Option Hold) → hold_after confirmed (hold_after confirmed hold) ≡ hold_after confirmed hold
after_twice confirmed None = refl
after_twice confirmed (Some hold) = twice (ltb confirmed hold.least) refl
  where
    twice : (b : Bool) → ltb confirmed hold.least ≡ b → hold_after confirmed (cond b (Some hold) None) ≡ cond b (Some hold) None
    twice true e = ap (λ (b : Bool). cond b (Some hold) None) e
    twice false e = refl

one_more : (confirmed : ℕ) (a b c : Option Hold) → (b ≡ a) ⊎ (b ≡ hold_after confirmed a) → (c ≡ b) ⊎ (c ≡ hold_after confirmed b)
    → (c ≡ a) ⊎ (c ≡ hold_after confirmed a)
one_more confirmed a b c (inl s) (inl t) = inl (t ∙ s)
one_more confirmed a b c (inl s) (inr t) = inr (t ∙ ap (hold_after confirmed) s)
one_more confirmed a b c (inr s) (inl t) = inr (t ∙ s)
one_more confirmed a b c (inr s) (inr t) = inr (t ∙ ap (hold_after confirmed) s ∙ after_twice confirmed a)

module _ {S : Type 0} where
  pub keeps_same : (old new : ℕ → Option (Peer S)) → ((key : ℕ) → new key ≡ old key) → KeepsHolds old new
  keeps_same old new same = record { each = λ key. ap hold_of (same key) }

  pub keeps_both : (old mid new : ℕ → Option (Peer S)) → KeepsHolds old mid → KeepsHolds mid new → KeepsHolds old new
  keeps_both old mid new s t = record { each = λ key. t.each key ∙ s.each key }

  pub lets_same : (confirmed : ℕ) (old new : ℕ → Option (Peer S)) → KeepsHolds old new → LetsGo confirmed old new
  lets_same confirmed old new keeps = record { each = λ key. inl (keeps.each key) }

  pub lets_both : (confirmed : ℕ) (old mid new : ℕ → Option (Peer S)) → LetsGo confirmed old mid → LetsGo confirmed mid new → LetsGo confirmed old new
  lets_both confirmed old mid new s t = record {
    each = λ key. one_more confirmed (hold_of (old key)) (hold_of (mid key)) (hold_of (new key)) (s.each key) (t.each key);
  }
