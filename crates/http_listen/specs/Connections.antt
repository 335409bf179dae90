-- Connections of which one is served at a time, in stretches.
use Rattle.std.specs.Prelude.{◌≡◌, ◌⊎◌, ℕ, zero, suc, Bool, false, List, [], ◌∷◌, length, filter, Option, None, Some, IsSome, Result, Ok, Err, ⊤}
use Rattle.std.specs.declared.alloc.AllocError.{AllocError}
use Rattle.http_serve.specs.declared.answers.Rest.{Rest}
use Rattle.http_serve.specs.declared.connection.Answer.{Answer}
use Rattle.http_serve.specs.declared.connection.Served.{Served}
use Rattle.http_serve.specs.declared.handlers.RestFault.{RestFault}
use Rattle.http_serve.specs.declared.handlers.Ticket.{Ticket}
use Rattle.http_requests.specs.declared.frames.Next.{Next}
use Rattle.http_requests.specs.declared.frames.Next.TheVariants.{Whole, Refused, More}
use Rattle.http_requests.specs.Requests.{RequestView}
use Rattle.http_serve.specs.Connections.{PreparesNext, once_replied}
use Rattle.http_serve.specs.Reply.{ReplyView}
use Rattle.http_serve.specs.Served.{AnswersNext}
use Rattle.http_serve.specs.Told.{IsServed, IsServedInPart}

-- A stretch of a connection, in which no other is served: whether it is the connection's first, what it came to, and what was left to read
-- and held of what was written, before it and after it, where this is known.
pub record Stretch : Type 0 where
  pub first : Bool
  pub result : Result Answer AllocError
  pub left : Option (List ℕ)
  pub held : Option (List ℕ)
  pub leaves : Option (List ℕ)
  pub holds : Option (List ℕ)

-- What is done for connections, one after the other.
pub data Event : Type 0 where
  -- a stretch
  at_stretch : Stretch → Event
  -- a read of the rest of a content that a stretch left: its ticket, an offset, how many bytes from there on, and these, or why they couldn't be read
  at_part : Ticket → (offset count : ℕ) → Result (List ℕ) RestFault → Event
  -- a step of the preparation of the reply to these bytes of a connection
  at_preparation : (connection : ℕ) → (asked : List ℕ) → Event

-- it is the first stretch of a connection
abbrev pub is_first : Event → Bool
is_first (at_stretch s) = s.first
is_first (at_part ticket offset count outcome) = false
is_first (at_preparation connection asked) = false

-- how many connections these events are of: the number of first stretches
abbrev pub begun : List Event → ℕ
begun events = length (filter is_first events)

-- what a stretch was over is known: the bytes that its requests and the ending are in
abbrev pub IsOverKnown : Event → Type 0
IsOverKnown (at_stretch s) = IsSome s.left
IsOverKnown (at_part ticket offset count outcome) = ⊤
IsOverKnown (at_preparation connection asked) = ⊤

-- so it is of each of these
abbrev pub AreOverKnown : List Event → Type 0
AreOverKnown [] = ⊤
AreOverKnown (event ∷ events) = IsOverKnown event × AreOverKnown events

-- replies
module _ {S : Type 0} (replies : S → RequestView → ReplyView → S → Type 0) where
  -- In a stretch all was answered and the replies are there whole, or one request was, and its reply but for this rest: it is counted as one.
  abbrev pub IsAnswered : Served → Option Rest → S → Stretch → S → Type 0
  IsAnswered served None old stretch new = IsServed replies old stretch.left stretch.held served new stretch.leaves stretch.holds
  IsAnswered served (Some rest) old stretch new = (close : Bool) × (served ≡ once_replied close)
      × IsServedInPart replies (AnswersNext replies) old stretch.left stretch.held 0 new stretch.leaves stretch.holds

  -- what a stretch came to; if memory runs out, nothing was answered
  abbrev pub CameTo : Result Answer AllocError → S → Stretch → S → Type 0
  CameTo (Ok answer) old stretch new = IsAnswered answer.served answer.rest old stretch new
  CameTo (Err fault) old stretch new = (new ≡ old) × (stretch.leaves ≡ stretch.left) × (stretch.holds ≡ stretch.held)

  -- a stretch over known bytes with this result, of a connection that it is the first of or isn't, leads from a state to the next
  abbrev pub ComesTo : Result Answer AllocError → S → S → Type 0
  ComesTo result old new = (input : List ℕ) × (held : Option (List ℕ)) × (leaves : Option (List ℕ)) × (holds : Option (List ℕ))
      × ((first : Bool) → CameTo result old (record { first = first; result = result; left = Some input; held = held; leaves = leaves; holds = holds }) new)

  -- a stretch leads from a state to the next
  abbrev pub NextStretch : S → S → Type 0
  NextStretch old new = (result : Result Answer AllocError) × ComesTo result old new

-- what was found in bytes is no request
abbrev pub IsNoRequest : Next → Type 0
IsNoRequest (Whole frame) = ⊥
IsNoRequest (Refused rejection) = ⊤
IsNoRequest (More missing) = ⊤

-- this many steps, one after the other, lead from a state to the next
abbrev pub AreSteps : {S : Type 0} (prepares : S → S → Type 0) → ℕ → S → S → Type 0
AreSteps prepares zero old new = new ≡ old
AreSteps {S} prepares (suc more) old new = (middle : S) × prepares old middle × AreSteps prepares more middle new

-- the same, and replies
module _ {S : Type 0} (replies : S → RequestView → ReplyView → S → Type 0) (prepares : S → (connection : ℕ) → RequestView → S → Type 0) where
  -- steps of the preparation of the reply to some bytes of a connection lead from a state to the next, and then perhaps a stretch, which answers
  abbrev pub NextAnswer : S → S → Type 0
  NextAnswer old new = (connection : ℕ) × (asked : List ℕ) × (steps : ℕ) × (middle : S)
      × AreSteps (PreparesNext prepares connection asked) steps old middle × ((new ≡ middle) ⊎ NextStretch replies middle new)

-- reads of a content by its ticket
module _ {S : Type 0} (reads : S → Ticket → (offset count : ℕ) → Result (List ℕ) RestFault → S → Type 0) where
  -- a read leads from a state to the next
  abbrev pub NextPart : S → S → Type 0
  NextPart old new = (ticket : Ticket) × (offset : ℕ) × (count : ℕ) × (outcome : Result (List ℕ) RestFault)
      × reads old ticket offset count outcome new

module _ {S : Type 0} (replies : S → RequestView → ReplyView → S → Type 0)
    (reads : S → Ticket → (offset count : ℕ) → Result (List ℕ) RestFault → S → Type 0) (prepares : S → (connection : ℕ) → RequestView → S → Type 0) where
  -- an event leads from a state to the next
  abbrev pub Happens : S → Event → S → Type 0
  Happens old (at_stretch s) new = CameTo replies s.result old s new
  Happens old (at_part ticket offset count outcome) new = reads old ticket offset count outcome new
  Happens old (at_preparation connection asked) new = PreparesNext prepares connection asked old new

  -- the replies, reads and preparations of these events, in order, lead from the old state to the new one
  abbrev pub Serves : S → List Event → S → Type 0
  Serves old [] new = new ≡ old
  Serves old (event ∷ events) new = (middle : S) × Happens old event middle × Serves middle events new
