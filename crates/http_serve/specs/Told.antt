-- The outcome of a connection.
use Rattle.std.specs.Prelude.{◌≡◌, ◌<◌, ◌≤◌, ◌+◌, ◌-◌, ◌*◌, ℕ, Bool, List, length, Some, None, Option, Ok, Err, Result, IfOk, IfErr, ⊤}
use Rattle.std.specs.Io.KnownBytes.{Consumes, Appends}
use Rattle.http_serve.specs.declared.connection.End.{End}
use Rattle.http_serve.specs.declared.connection.End.TheVariants.{Closed, Asked, Refused, Turns}
use Rattle.http_serve.specs.declared.connection.ServeFault.{ServeFault}
use Rattle.http_serve.specs.declared.connection.ServeFault.TheVariants.{Memory, Read, Write, Content}
use Rattle.http_serve.specs.declared.connection.Served.{Served}
use Rattle.http_serve.specs.Buffers.{buffer_size}
use Rattle.http_serve.specs.Reads.{GivesTimes}
use Rattle.http_requests.specs.Requests.{Request, IsRequest, Requests, Ending, going, closed, asked, refused}
use Rattle.http_requests.specs.Requests.{RequestView}
use Rattle.http_serve.specs.Reply.{ReplyView}
use Rattle.http_serve.specs.Served.{RisesBy, reply_count, AnswersAll, AnswersNext, RepliesNext, Carries, Ends, Breaks, Stops, MayFollow}

-- the end that is reported
abbrev pub end_of : Ending → End
end_of going = Turns
end_of closed = Closed
end_of (asked request) = Asked
end_of (refused head refusal) = Refused

-- the first fact if the limit on reads was reached, otherwise the second
abbrev pub IfTurns : End → Type 0 → Type 0 → Type 0
IfTurns Turns stopped ended = stopped
IfTurns Closed stopped ended = ended
IfTurns Asked stopped ended = ended
IfTurns Refused stopped ended = ended

-- at most this many bytes were read from the input, if it is known
abbrev pub LosesAtMost : ℕ → Option (List ℕ) → Option (List ℕ) → Type 0
LosesAtMost bytes None left = ⊤
LosesAtMost bytes (Some input) None = ⊥
LosesAtMost bytes (Some input) (Some left) = length input ≤ length left + bytes

-- the limit on reads is reached only after this many reads, each of which returned bytes
abbrev pub MeetsTurns : {R : Type 0} → (remaining : R → Option (List ℕ)) → ℕ → (old new : R) → End → Type 0
MeetsTurns remaining turns old new end = IfTurns end (GivesTimes remaining turns old new) ⊤

-- the most reads that returned bytes, given the limit on reads: a failed read counts towards it and returns none
abbrev pub giving_reads : ℕ → Result Served ServeFault → ℕ
giving_reads turns (Ok served) = turns
giving_reads turns (Err Memory) = 0
giving_reads turns (Err (Read requests)) = turns - 1
giving_reads turns (Err (Write requests)) = turns
giving_reads turns (Err (Content requests)) = turns

-- at most this many reads were made, each of at most the size of the buffer
abbrev pub KeepsTurns : ℕ → Result Served ServeFault → Option (List ℕ) → Option (List ℕ) → Type 0
KeepsTurns turns result input left = LosesAtMost (giving_reads turns result * buffer_size) input left

-- the fault is the handler's only if a content is read in parts
abbrev pub HasContent : ℕ → ServeFault → Type 0
HasContent size (Content requests) = 0 < size
HasContent size fault = ⊤

-- the fault isn't Memory
abbrev pub IsNotMemory : ServeFault → Type 0
IsNotMemory Memory = ⊥
IsNotMemory fault = ⊤

module _ {S : Type 0} (replies : S → RequestView → ReplyView → S → Type 0) where
  -- The bytes read are requests up to this ending, whatever may follow. The replies were
  -- written and counted. Nothing may follow if the end of the input was read.
  pub record IsServedTo (old : S) (left : Option (List ℕ)) (held : Option (List ℕ)) (served : Served)
      (new : S) (leaves : Option (List ℕ)) (holds : Option (List ℕ)) : Type 0 where
    pub bytes : List ℕ
    pub read : Consumes left leaves bytes
    pub ending : Ending
    pub told : served.end ≡ end_of ending
    pub ends : Ends replies old bytes (MayFollow leaves) held 0 ending new holds served.requests

  -- the replies to the whole requests in the bytes read were written and counted
  pub record IsServedSoFar (old : S) (left : Option (List ℕ)) (held : Option (List ℕ)) (requests : ℕ)
      (new : S) (leaves : Option (List ℕ)) (holds : Option (List ℕ)) : Type 0 where
    pub bytes : List ℕ
    pub rest : List ℕ
    pub read : Consumes left leaves bytes
    pub carries : Carries replies old bytes held 0 new rest holds requests
    pub none : (request : Request) (behind : List ℕ) → ¬ (IsRequest rest request behind)

  -- the same, but of the last reply, which IsNext describes, only a proper prefix was written, and it isn't counted
  pub record IsServedInPart (IsNext : S → List ℕ → List ℕ → S → Type 0) (old : S) (left : Option (List ℕ)) (held : Option (List ℕ)) (requests : ℕ)
      (new : S) (leaves : Option (List ℕ)) (holds : Option (List ℕ)) : Type 0 where
    pub bytes : List ℕ
    pub read : Consumes left leaves bytes
    pub breaks : Breaks replies IsNext old bytes held 0 new holds requests

  -- the outcome of a connection
  abbrev pub IsServed : S → Option (List ℕ) → Option (List ℕ) → Served → S → Option (List ℕ) → Option (List ℕ) → Type 0
  IsServed old left held served new leaves holds =
      IfTurns served.end (IsServedSoFar old left held served.requests new leaves holds) (IsServedTo old left held served new leaves holds)

  -- all bytes of the input are these requests up to an ending, and their replies, in order, are what was written
  pub record IsAnswered (old : S) (input : List ℕ) (held : Option (List ℕ)) (served : Served) (new : S) (holds : Option (List ℕ)) : Type 0 where
    pub requests : List Request
    pub ending : Ending
    pub told : served.end ≡ end_of ending
    pub reads : Requests input requests ending
    pub out : List ℕ
    pub answers : AnswersAll replies old requests ending out new
    pub written : Appends held holds out
    pub counted : RisesBy 0 (reply_count requests ending) served.requests

  -- the same, if the input is known and the limit on reads wasn't reached
  abbrev pub AnswersInput : S → Option (List ℕ) → Option (List ℕ) → Served → S → Option (List ℕ) → Type 0
  AnswersInput old None held served new holds = ⊤
  AnswersInput old (Some input) held served new holds = IfTurns served.end ⊤ (IsAnswered old input held served new holds)

-- replies, and those whose content the handler couldn't read
module _ {S : Type 0} (replies fails : S → RequestView → ReplyView → S → Type 0) where
  -- the state after a fault: after Content, the handler couldn't read the content of the reply that is cut
  abbrev pub IsServedUpTo : S → Option (List ℕ) → Option (List ℕ) → ServeFault → S → Option (List ℕ) → Option (List ℕ) → Type 0
  IsServedUpTo old left held Memory new leaves holds = (new ≡ old) × (leaves ≡ left) × (holds ≡ held)
  IsServedUpTo old left held (Read requests) new leaves holds = IsServedSoFar replies old left held requests new leaves holds
  IsServedUpTo old left held (Write requests) new leaves holds =
      IsServedInPart replies (RepliesNext replies (MayFollow leaves)) old left held requests new leaves holds
  IsServedUpTo old left held (Content requests) new leaves holds =
      IsServedInPart replies (AnswersNext fails) old left held requests new leaves holds

-- replies, and those whose content is being read in parts
module _ {S : Type 0} (replies sends : S → RequestView → ReplyView → S → Type 0) where
  -- the replies to the whole requests in the bytes read were written and counted, and the next one up to the rest of its content
  pub record IsServedToRest (old : S) (left held : Option (List ℕ)) (requests : ℕ) (close : Bool) (from size : ℕ)
      (new : S) (leaves holds : Option (List ℕ)) : Type 0 where
    pub bytes : List ℕ
    pub read : Consumes left leaves bytes
    pub stops : Stops replies sends old bytes held 0 close from size new holds requests

-- the same handler, with what its content has left, what a reader has left and what a writer holds
module _ {S R W : Type 0} (replies fails : S → RequestView → ReplyView → S → Type 0) (size : S → ℕ)
    (remaining : R → Option (List ℕ)) (contents : W → Option (List ℕ)) where
  -- A connection is served in at most limit reads.
  pub record Serves (limit : ℕ) (old : S) (reader : R) (writer : W) (result : Result Served ServeFault)
      (new : S) (next_reader : R) (next_writer : W) : Type 0 where
    -- all requests of a known input are answered, unless the limit on reads was reached
    pub input : IfOk result (λ served. AnswersInput replies old (remaining reader) (contents writer) served new (contents next_writer))
    pub served : IfOk result (λ served. IsServed replies old (remaining reader) (contents writer) served
        new (remaining next_reader) (contents next_writer))
    pub fault : IfErr result (λ fault. IsServedUpTo replies fails old (remaining reader) (contents writer) fault
        new (remaining next_reader) (contents next_writer))
    pub content : IfErr result (HasContent (size new))
    pub turns : IfOk result (λ served. MeetsTurns remaining limit reader next_reader served.end)
    pub reads : KeepsTurns limit result (remaining reader) (remaining next_reader)
