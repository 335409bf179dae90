-- Laws of events one after the other, for the crates above too.
use Rattle.std.proofs.Common.{◌≡◌, ◌+◌, ℕ, zero, suc, List, [], ◌∷◌, ◌++◌, Result, length, refl, sym, subst, ap, ◌∙◌}
use Rattle.std.proofs.Common.{length-append, Bool, true, false, add-zero, inl, inr}
use Rattle.std.proofs.lemmas.List.Elements.{filter-append}
use Rattle.std.specs.Prelude.{◌⊎◌, filter, Some}
use Rattle.http_serve.specs.declared.handlers.RestFault.{RestFault}
use Rattle.http_serve.specs.declared.handlers.Ticket.{Ticket}
use Rattle.http_requests.specs.Requests.{RequestView}
use Rattle.http_serve.specs.Connections.{PreparesNext}
use Rattle.http_serve.specs.Reply.{ReplyView}
use Rattle.http_listen.specs.Connections.{Stretch, Event, at_stretch, at_part, at_preparation, is_first, Happens, Serves, NextStretch, NextAnswer, NextPart}
use Rattle.http_listen.specs.Connections.{IsOverKnown, AreOverKnown, AreSteps, begun}

-- Events over what is known, and then other ones.
known_both : (front back : List Event) → AreOverKnown front → AreOverKnown back → AreOverKnown (front ++ back)
known_both [] back known then = then
known_both (event ∷ front) back known then = (known.0, known_both front back known.1 then)

module _ {S : Type 0} (replies : S → RequestView → ReplyView → S → Type 0)
    (reads : S → Ticket → (offset count : ℕ) → Result (List ℕ) RestFault → S → Type 0) (prepares : S → (connection : ℕ) → RequestView → S → Type 0) where
  -- Events, and then other events, are both lists in one.
  pub serves_both : (old : S) (front back : List Event) (middle new : S)
      → Serves replies reads prepares old front middle → Serves replies reads prepares middle back new
      → Serves replies reads prepares old (front ++ back) new
  serves_both old [] back middle new first then = subst (λ (s : S). Serves replies reads prepares s back new) first then
  serves_both old (event ∷ front) back middle new first then =
      (first.0, first.1, serves_both first.0 front back middle new first.2 then)

  -- Two lists in one are the events of the first, and then those of the second.
  pub serves_parts : (old : S) (front back : List Event) (new : S)
      → Serves replies reads prepares old (front ++ back) new
      → (middle : S) × Serves replies reads prepares old front middle × Serves replies reads prepares middle back new
  serves_parts old [] back new both = (old, refl, both)
  serves_parts old (event ∷ front) back new both =
      let parts = serves_parts both.0 front back new both.2 in (parts.0, (both.0, both.1, parts.1), parts.2)

  -- events of this many connections, whose stretches are over known bytes, lead from the old state to the new one
  abbrev pub ServesCount : ℕ → S → S → Type 0
  ServesCount count old new = (served : List Event) × Serves replies reads prepares old served new × (begun served ≡ count) × AreOverKnown served

  -- One event more leads on.
  next_serves : (event : Event) (count : ℕ) (old middle new : S) → IsOverKnown event → ServesCount count old middle
      → Happens replies reads prepares middle event new → ServesCount (count + begun (event ∷ [])) old new
  next_serves event count old middle new known before then =
      let one = event ∷ [] in (
        before.0 ++ one,
        serves_both old before.0 one middle new before.1 (new, then, refl),
        ap length (filter-append is_first before.0 one) ∙ length-append (filter is_first before.0) (filter is_first one)
            ∙ ap (λ n. n + begun one) before.2,
        known_both before.0 one before.3 (known, tt),
      )

  -- the stretch that leads on, the first of its connection or another one
  abbrev one_more : Bool → (old new : S) → NextStretch replies old new → Stretch
  one_more first old new then = record { first = first; result = then.0; left = Some then.1.0; held = then.1.1; leaves = then.1.2; holds = then.1.3 }

  -- The first stretch of one connection more.
  pub serves_first : (count : ℕ) (old middle new : S) → ServesCount count old middle → NextStretch replies middle new
      → ServesCount (count + 1) old new
  serves_first count old middle new before then =
      next_serves (at_stretch (one_more true middle new then)) count old middle new refl before (then.1.4 true)

  -- One more of a connection that was served before.
  pub serves_again : (count : ℕ) (old middle new : S) → ServesCount count old middle → NextStretch replies middle new
      → ServesCount count old new
  serves_again count old middle new before then = subst (λ n. ServesCount n old new) (add-zero count)
      (next_serves (at_stretch (one_more false middle new then)) count old middle new refl before (then.1.4 false))

  -- One more read of a content.
  pub serves_part : (count : ℕ) (old middle new : S) → ServesCount count old middle → NextPart reads middle new → ServesCount count old new
  serves_part count old middle new before then = subst (λ n. ServesCount n old new) (add-zero count)
      (next_serves (at_part then.0 then.1 then.2 then.3) count old middle new tt before then.4)

  -- One more step of the preparation of a reply.
  serves_preparation : (connection : ℕ) (asked : List ℕ) (count : ℕ) (old middle new : S) → ServesCount count old middle
      → PreparesNext prepares connection asked middle new → ServesCount count old new
  serves_preparation connection asked count old middle new before then = subst (λ n. ServesCount n old new) (add-zero count)
      (next_serves (at_preparation connection asked) count old middle new tt before then)

  -- Several of these.
  serves_steps : (connection : ℕ) (asked : List ℕ) (steps count : ℕ) (old middle new : S) → ServesCount count old middle
      → AreSteps (PreparesNext prepares connection asked) steps middle new → ServesCount count old new
  serves_steps connection asked zero count old middle new before same = subst (λ (s : S). ServesCount count old s) (sym same) before
  serves_steps connection asked (suc more) count old middle new before then =
      serves_steps connection asked more count old then.0 new (serves_preparation connection asked count old middle then.0 before then.1) then.2

  -- Several of these, and perhaps one more stretch.
  pub serves_answer : (count : ℕ) (old middle new : S) → ServesCount count old middle → NextAnswer replies prepares middle new
      → ServesCount count old new
  serves_answer count old middle new before then = answered then.5
    where
      stepped : ServesCount count old then.3
      stepped = serves_steps then.0 then.1 then.2 count old middle then.3 before then.4

      answered : (new ≡ then.3) ⊎ NextStretch replies then.3 new → ServesCount count old new
      answered (inl same) = subst (λ (s : S). ServesCount count old s) (sym same) stepped
      answered (inr stretch) = serves_again count old then.3 new stepped stretch
