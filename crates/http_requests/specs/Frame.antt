-- What the search for a request finds.
use Rattle.std.specs.Prelude.{◌≡◌, ℕ, ◌<◌, ◌≤◌, List, ◌++◌, length, take, drop, All, Option}
use Rattle.httparse.specs.Grammar.{RequestHead}
use Rattle.httparse.specs.declared.spans.HeaderSpan.{HeaderSpan}
use Rattle.httparse.specs.Spans.{span_bytes, IsHeaderWithin, IsWithin}
use Rattle.http_requests.specs.declared.frames.TheConstants.{MAX_REQUEST}
use Rattle.http_requests.specs.declared.frames.Frame.{Frame}
use Rattle.http_requests.specs.declared.frames.Next.{Next}
use Rattle.http_requests.specs.declared.frames.Next.TheVariants.{Whole, Refused, More}
use Rattle.http_requests.specs.declared.refusals.Rejection.{Rejection}
use Rattle.http_requests.specs.Requests.{Request, IsRequest, IsRefused, fields_at, fields_of, asks_to_close, has_head_method}

-- bytes begin with this request, and the frame and the spans have its parts
pub record IsFrameOf (bytes : List ℕ) (spans : List HeaderSpan) (frame : Frame) (request : Request) : Type 0 where
  pub method_within : IsWithin (length bytes) frame.method
  pub target_within : IsWithin (length bytes) frame.target
  pub body_within : IsWithin (length bytes) frame.body
  pub fields_within : All (IsHeaderWithin (length bytes)) (take frame.fields spans)
  pub few : frame.fields ≤ length spans
  pub some : 0 < frame.body.end
  pub is : IsRequest bytes request (drop frame.body.end bytes)
  pub method : span_bytes bytes frame.method ≡ request.head.method
  pub target : span_bytes bytes frame.target ≡ request.head.target
  pub fields : fields_at bytes spans frame ≡ fields_of request.head
  pub body : span_bytes bytes frame.body ≡ request.body
  pub close : frame.close ≡ asks_to_close request.head

-- bytes begin with no request, nor do they with more bytes appended while the total length is below until
pub record IsMissing (bytes : List ℕ) (rejection : Rejection) (until : ℕ) : Type 0 where
  pub few : length bytes < until
  pub bound : until ≤ MAX_REQUEST
  pub head : Option RequestHead
  pub bare : rejection.bare ≡ has_head_method head
  pub refused : (more : List ℕ) → length (bytes ++ more) < until → IsRefused (bytes ++ more) head rejection.refusal

-- bytes begin with no request, whatever follows
pub record IsRejected (bytes : List ℕ) (rejection : Rejection) : Type 0 where
  pub some : 0 < length bytes
  pub head : Option RequestHead
  pub bare : rejection.bare ≡ has_head_method head
  pub refused : (more : List ℕ) → IsRefused (bytes ++ more) head rejection.refusal

-- what bytes begin with: the fields of a request are at these spans
abbrev pub IsNext : List ℕ → List HeaderSpan → Next → Type 0
IsNext bytes spans (Whole frame) = (request : Request) × IsFrameOf bytes spans frame request
IsNext bytes spans (Refused rejection) = IsRejected bytes rejection
IsNext bytes spans (More missing) = IsMissing bytes missing.rejection missing.until
