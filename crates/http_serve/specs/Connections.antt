-- A connection as its bytes: those that were read and not answered, and those that wait to be sent.
use Rattle.std.specs.Prelude.{◌≡◌, ◌<◌, ℕ, Bool, false, List, [], ◌++◌, ◌||◌, length, take, Option, None, Some, IfSome, cond}
use Rattle.httparse.specs.declared.spans.HeaderSpan.{HeaderSpan}
use Rattle.http_requests.specs.declared.frames.Frame.{Frame}
use Rattle.http_requests.specs.Requests.{Request, IsRequest, RequestView, request_view, request_view_at, is_head}
use Rattle.httparse.specs.Spans.{span_bytes}
use Rattle.http_serve.specs.Reply.{ReplyView, head_of, reply_head, reply_bytes, has_no_content}
use Rattle.http_serve.specs.declared.answers.Rest.{Rest}
use Rattle.http_serve.specs.declared.connection.Answer.{Answer}
use Rattle.http_serve.specs.declared.connection.End.TheVariants as ends
use Rattle.http_serve.specs.declared.connection.Served.{Served}

-- both, and whether its buffers are reserved and kept
pub record ConnectionView : Type 0 where
  pub input : List ℕ
  pub output : List ℕ
  pub reserved : Bool

-- a piece is the first bytes that wait to be sent: some, if any do
pub record IsNextPiece (piece output : List ℕ) : Type 0 where
  pub behind : List ℕ
  pub is : output ≡ piece ++ behind
  pub some : piece ≡ [] → output ≡ []

-- Of a reply only its head and the content up to its rest is to be sent, which is none of a reply that is sent without its content.
pub record Leaves (close bare : Bool) (reply : ReplyView) (rest : Rest) (output : List ℕ) : Type 0 where
  pub size_is : rest.length ≡ length reply.content
  pub some : rest.from < rest.length
  pub sent : (bare || has_no_content reply.status) ≡ false
  pub output_is : output ≡ reply_head close (head_of reply) ++ take rest.from reply.content

-- of a reply this is to be sent: all, or what comes before the rest of its content
abbrev pub IsToSend : (close bare : Bool) → ReplyView → Option Rest → (output : List ℕ) → Type 0
IsToSend close bare reply None output = output ≡ reply_bytes close bare reply
IsToSend close bare reply (Some rest) output = Leaves close bare reply rest output

module _ {S : Type 0} (replies sends : S → RequestView → ReplyView → S → Type 0) (size : S → ℕ) where
  -- A handler replied to the request in a frame of the bytes, and this is to be sent. The rest is the handler's to read.
  pub record Replied (old : S) (bytes : List ℕ) (fields : List HeaderSpan) (frame : Frame) (rest : Option Rest) (new : S)
      (output : List ℕ) : Type 0 where
    pub reply : ReplyView
    pub given : replies old (request_view_at bytes fields frame) reply new
    pub shown : IsToSend frame.close (is_head (span_bytes bytes frame.method)) reply rest output
    pub left : IfSome rest (λ r. sends old (request_view_at bytes fields frame) reply new × (size new ≡ r.length))

-- what a connection comes to once the reply to a request is sent; close says whether it ends after it
abbrev pub once_replied : (close : Bool) → Served
once_replied close = record { requests = 1; end = cond close ends.Asked ends.Closed }

-- what an answer to a request comes to whose reply has this rest
abbrev pub answered : (close : Bool) → Option Rest → Answer
answered close rest = record { served = once_replied close; rest = rest }

-- steps of the making of replies
module _ {S : Type 0} (prepares : S → (connection : ℕ) → RequestView → S → Type 0) where
  -- A step was made of the making of the reply to these bytes of a connection: they are one whole request.
  abbrev pub PreparesNext : (connection : ℕ) → (asked : List ℕ) → S → S → Type 0
  PreparesNext connection asked old new =
      (request : Request) × IsRequest asked request [] × prepares old connection (request_view request) new
