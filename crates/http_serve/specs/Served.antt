-- What a connection writes, given what it reads.
use Rattle.std.specs.Prelude.{◌≡◌, ℕ, ◌+◌, ◌-◌, ◌^◌, ◌<◌, min, Bool, List, [], ◌∷◌, ◌++◌, length, take, Option, ⊤, ◌⊎◌}
use Rattle.std.specs.Io.KnownBytes.{Appends, IsAtEnd}
use Rattle.httparse.specs.Grammar.{RequestHead}
use Rattle.http_requests.specs.declared.refusals.Refusal.{Refusal}
use Rattle.http_requests.specs.Requests.{Request, IsRequest, IsRefused, Begins, Ending, going, closed, asked, refused, Requests}
use Rattle.http_requests.specs.Requests.{RequestView, request_view, asks_to_close}
use Rattle.http_serve.specs.Parts.{IsStopped}
use Rattle.http_serve.specs.Reply.{ReplyView, reply_to, refusal_bytes}

-- a count rises by n, saturating at the maximum of u64
abbrev pub RisesBy : ℕ → ℕ → ℕ → Type 0
RisesBy old n new = new ≡ min (old + n) (2 ^ 64 - 1)

-- the number of replies to these requests and this ending
abbrev pub reply_count : List Request → Ending → ℕ
reply_count requests going = length requests
reply_count requests closed = length requests
reply_count requests (asked request) = length requests + 1
reply_count requests (refused head refusal) = length requests + 1

module _ {S : Type 0} (replies : S → RequestView → ReplyView → S → Type 0) where
  -- one reply for each request, in order
  abbrev pub Answers : S → List Request → List ℕ → S → Type 0
  Answers old [] out new = (out ≡ []) × (new ≡ old)
  Answers old (request ∷ requests) out new =
      (reply : ReplyView) × (middle : S) × (more : List ℕ) × replies old (request_view request) reply middle
      × (out ≡ reply_to request reply ++ more) × Answers middle requests more new

  -- the reply to the ending, if it has one
  abbrev pub AnswersEnd : S → Ending → List ℕ → S → Type 0
  AnswersEnd old going out new = (out ≡ []) × (new ≡ old)
  AnswersEnd old closed out new = (out ≡ []) × (new ≡ old)
  AnswersEnd old (asked request) out new =
      (reply : ReplyView) × replies old (request_view request) reply new × (out ≡ reply_to request reply)
  AnswersEnd old (refused head refusal) out new = (out ≡ refusal_bytes head refusal) × (new ≡ old)

  -- the replies to all requests and to the end
  pub record AnswersAll (old : S) (requests : List Request) (ending : Ending) (out : List ℕ) (new : S) : Type 0 where
    pub middle : S
    pub front : List ℕ
    pub last : List ℕ
    pub each : Answers old requests front middle
    pub end : AnswersEnd middle ending last new
    pub is : out ≡ front ++ last

  -- bytes are some whole requests, whose replies are written and counted, followed by rest
  pub record Carries (old : S) (bytes : List ℕ) (held : Option (List ℕ)) (before : ℕ)
      (new : S) (rest : List ℕ) (holds : Option (List ℕ)) (after : ℕ) : Type 0 where
    pub requests : List Request
    pub out : List ℕ
    pub begins : Begins bytes requests rest
    pub answers : Answers old requests out new
    pub written : Appends held holds out
    pub counted : RisesBy before (length requests) after

  -- bytes, whatever permitted bytes follow them, are requests up to an ending, and the replies are written and counted
  pub record Ends (old : S) (bytes : List ℕ) (follow : List ℕ → Type 0) (held : Option (List ℕ)) (before : ℕ) (ending : Ending)
      (new : S) (holds : Option (List ℕ)) (after : ℕ) : Type 0 where
    pub requests : List Request
    pub out : List ℕ
    pub reads : (more : List ℕ) → follow more → Requests (bytes ++ more) requests ending
    pub answers : AnswersAll old requests ending out new
    pub written : Appends held holds out
    pub counted : RisesBy before (reply_count requests ending) after

  -- out is the reply to the request that bytes begin with
  pub record AnswersNext (old : S) (bytes out : List ℕ) (new : S) : Type 0 where
    pub request : Request
    pub rest : List ℕ
    pub reply : ReplyView
    pub is : IsRequest bytes request rest
    pub replied : replies old (request_view request) reply new
    pub out_is : out ≡ reply_to request reply

  -- out is the reply to bytes that begin with no request, whatever permitted bytes follow
  pub record RefusesNext (old : S) (bytes : List ℕ) (follow : List ℕ → Type 0) (out : List ℕ) (new : S) : Type 0 where
    pub head : Option RequestHead
    pub refusal : Refusal
    pub some : 0 < length bytes
    pub is : (more : List ℕ) → follow more → IsRefused (bytes ++ more) head refusal
    pub same : new ≡ old
    pub out_is : out ≡ refusal_bytes head refusal

  -- out is the reply to what bytes begin with, whatever permitted bytes follow: a request, or none
  abbrev pub RepliesNext : (follow : List ℕ → Type 0) → S → List ℕ → List ℕ → S → Type 0
  RepliesNext follow old bytes out new = AnswersNext old bytes out new ⊎ RefusesNext old bytes follow out new

  -- a reply was cut: the replies to some whole requests are written, and a proper prefix of the next one, which IsNext describes
  pub record Breaks (IsNext : S → List ℕ → List ℕ → S → Type 0) (old : S) (bytes : List ℕ) (held : Option (List ℕ)) (before : ℕ)
      (new : S) (holds : Option (List ℕ)) (after : ℕ) : Type 0 where
    pub middle : S
    pub rest : List ℕ
    pub between : Option (List ℕ)
    pub carries : Carries old bytes held before middle rest between after
    pub next : List ℕ
    pub count : ℕ
    pub replied : IsNext middle rest next new
    pub cut : count < length next
    pub written : Appends between holds (take count next)

-- replies, and those whose content is being read in parts
module _ {S : Type 0} (replies sends : S → RequestView → ReplyView → S → Type 0) where
  -- the reply to the request that bytes begin with is written up to the rest of its content; close says whether it is the last one
  pub record StopsNext (old : S) (bytes : List ℕ) (held : Option (List ℕ)) (close : Bool) (from size : ℕ)
      (new : S) (holds : Option (List ℕ)) : Type 0 where
    pub request : Request
    pub rest : List ℕ
    pub reply : ReplyView
    pub is : IsRequest bytes request rest
    pub replied : replies old (request_view request) reply new
    pub sent : sends old (request_view request) reply new
    pub close_is : close ≡ asks_to_close request.head
    pub stopped : IsStopped (reply_to request reply) reply.content from size held holds

  -- the replies to some whole requests are written, and the next one up to the rest of its content
  pub record Stops (old : S) (bytes : List ℕ) (held : Option (List ℕ)) (before : ℕ) (close : Bool) (from size : ℕ)
      (new : S) (holds : Option (List ℕ)) (after : ℕ) : Type 0 where
    pub middle : S
    pub rest : List ℕ
    pub between : Option (List ℕ)
    pub carries : Carries replies old bytes held before middle rest between after
    pub next : StopsNext middle rest between close from size new holds

-- anything may follow
abbrev pub Anything : List ℕ → Type 0
Anything more = ⊤

-- what may follow, given what is left of the input: nothing at its end
abbrev pub MayFollow : Option (List ℕ) → List ℕ → Type 0
MayFollow left more = IsAtEnd left → more ≡ []
