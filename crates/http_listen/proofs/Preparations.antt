-- Steps of the preparation of a reply, one after the other.
use Rattle.std.proofs.Common.{ℕ, zero, suc, List, ◌∷◌, Result, refl, subst}
use Rattle.http_requests.specs.Requests.{RequestView}
use Rattle.http_serve.specs.Connections.{PreparesNext}
use Rattle.http_serve.specs.Reply.{ReplyView}
use Rattle.http_serve.specs.declared.handlers.RestFault.{RestFault}
use Rattle.http_serve.specs.declared.handlers.Ticket.{Ticket}
use Rattle.http_listen.specs.Connections.{AreSteps}
use Rattle.http_listen.specs.Conversations.{Act, prepared, deeds_of, Runs}

-- this many steps for some bytes, and then these acts
abbrev pub prepared_first : List ℕ → ℕ → List Act → List Act
prepared_first bytes zero acts = acts
prepared_first bytes (suc more) acts = prepared bytes ∷ prepared_first bytes more acts

-- One step more.
pub step_more : {S : Type 0} (prepares : S → S → Type 0) (steps : ℕ) (old middle new : S) → AreSteps prepares steps old middle → prepares middle new
    → AreSteps prepares (suc steps) old new
step_more {S} prepares zero old middle new same step = (new, subst (λ (s : S). prepares s new) same step, refl)
step_more prepares (suc more) old middle new steps step = (steps.0, steps.1, step_more prepares more steps.0 middle new steps.2 step)

module _ {S : Type 0} (replies : S → RequestView → ReplyView → S → Type 0)
    (reads : S → Ticket → (offset count : ℕ) → Result (List ℕ) RestFault → S → Type 0) (ticket_of : S → Ticket)
    (prepares : S → (connection : ℕ) → RequestView → S → Type 0) where
  -- They are acts of a connection, before these.
  pub runs_prepared : (number : ℕ) (bytes : List ℕ) (steps : ℕ) (acts : List Act) (old middle new : S)
      → AreSteps (PreparesNext prepares number bytes) steps old middle
      → Runs replies reads ticket_of prepares middle (deeds_of number acts) new
      → Runs replies reads ticket_of prepares old (deeds_of number (prepared_first bytes steps acts)) new
  runs_prepared number bytes zero acts old middle new same runs =
      subst (λ (s : S). Runs replies reads ticket_of prepares s (deeds_of number acts) new) same runs
  runs_prepared number bytes (suc more) acts old middle new steps runs =
      (steps.0, steps.1, runs_prepared number bytes more acts steps.0 middle new steps.2 runs)
