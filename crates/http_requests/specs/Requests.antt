-- The requests in the bytes of a connection.
use Rattle.std.specs.Prelude.{◌≡◌, ℕ, ◌<◌, ◌≤◌, List, [], ◌∷◌, ◌++◌, Bool, true, false, ◌==◌, ◌||◌, ◌+◌, length, map, take, drop, Option, None, Some}
use Rattle.std.specs.Prelude.{Result, Ok, Err, ⊤, nat_eq, codes}
use Rattle.std.specs.Cmp.Lexicographic.{pointwise}
use Rattle.std.specs.List.{before_first}
use Rattle.httparse.specs.Grammar.{RequestHead, ReadsRequest, print_request}
use Rattle.httparse.specs.declared.spans.HeaderSpan.{HeaderSpan}
use Rattle.httparse.specs.Spans.{name_and_value, header_bytes, span_bytes}
use Rattle.http_requests.specs.declared.frames.Frame.{Frame}
use Rattle.http_requests.specs.declared.frames.TheConstants.{MAX_HEAD, MAX_FIELDS}
use Rattle.http_requests.specs.declared.refusals.Refusal.{Refusal}
use Rattle.http_requests.specs.declared.refusals.Refusal.TheVariants.{Head, Short}
use Rattle.http_requests.specs.Fields.{NamedValue, framing, says_close}

-- a request: its head and its body
pub record Request : Type 0 where
  pub head : RequestHead
  pub body : List ℕ

abbrev pub fields_of : RequestHead → List NamedValue
fields_of head = map name_and_value head.fields

-- bytes are this head, within its limits, followed by rest; empty lines before a head belong to it
pub record IsHead (bytes : List ℕ) (head : RequestHead) (rest : List ℕ) : Type 0 where
  pub reads : ReadsRequest bytes head rest
  pub size : length (print_request head) ≤ MAX_HEAD
  pub fields : length head.fields ≤ MAX_FIELDS

-- bytes are this request followed by rest
pub record IsRequest (bytes : List ℕ) (request : Request) (rest : List ℕ) : Type 0 where
  pub head : IsHead bytes request.head (request.body ++ rest)
  pub body : framing request.head.minor (fields_of request.head) ≡ Ok (length request.body)

-- the connection ends after this request: it is HTTP/1.0 or asks to close
abbrev pub asks_to_close : RequestHead → Bool
asks_to_close head = head.minor == 0 || says_close (fields_of head)

-- the method is HEAD, whose replies are only heads (RFC 9110, 9.3.2)
abbrev pub is_head : List ℕ → Bool
is_head method = pointwise nat_eq method (codes "HEAD")

-- there is a head, whose method is HEAD
abbrev pub has_head_method : Option RequestHead → Bool
has_head_method None = false
has_head_method (Some head) = is_head head.method

-- what a handler sees of a request
pub record RequestView : Type 0 where
  pub method : List ℕ
  pub path : List ℕ
  pub query : List ℕ
  -- the names and the values of its header fields, in order
  pub fields : List NamedValue
  pub body : List ℕ
  -- whether the connection ends after the reply
  pub close : Bool

-- b'?'
abbrev pub question_mark : ℕ
question_mark = 63

-- a request's path: its target up to the first question mark
abbrev pub path_of : List ℕ → List ℕ
path_of target = before_first (λ byte. byte == question_mark) target

-- a request's query: what follows the first question mark of its target
abbrev pub query_of : List ℕ → List ℕ
query_of target = drop (length (path_of target) + 1) target

abbrev pub request_view : Request → RequestView
request_view request = record {
  method = request.head.method;
  path = path_of request.head.target;
  query = query_of request.head.target;
  fields = fields_of request.head;
  body = request.body;
  close = asks_to_close request.head;
}

-- the fields in a frame of the bytes
abbrev pub fields_at : List ℕ → List HeaderSpan → Frame → List NamedValue
fields_at bytes spans frame = map (header_bytes bytes) (take frame.fields spans)

-- the request in a frame of the bytes, whose fields are at these spans
abbrev pub request_view_at : List ℕ → List HeaderSpan → Frame → RequestView
request_view_at bytes spans frame = record {
  method = span_bytes bytes frame.method;
  path = path_of (span_bytes bytes frame.target);
  query = query_of (span_bytes bytes frame.target);
  fields = fields_at bytes spans frame;
  body = span_bytes bytes frame.body;
  close = frame.close;
}

-- no prefix of bytes is a head within the limits
abbrev pub HasNoHead : List ℕ → Type 0
HasNoHead bytes = (head : RequestHead) (rest : List ℕ) → ¬ (IsHead bytes head rest)

-- why there is no request if the framing of its head is this and this many bytes follow the head
abbrev pub IsFault : ℕ → Result ℕ Refusal → Refusal → Type 0
IsFault left (Ok size) refusal = (left < size) × (refusal ≡ Short)
IsFault left (Err stated) refusal = refusal ≡ stated

-- bytes begin with this head, which is refused
pub record HasFault (bytes : List ℕ) (head : RequestHead) (refusal : Refusal) : Type 0 where
  pub rest : List ℕ
  pub is : IsHead bytes head rest
  pub fault : IsFault (length rest) (framing head.minor (fields_of head)) refusal

-- bytes, with nothing after them, begin with no request, for this reason: they have no head, or this head, which is refused
abbrev pub IsRefused : List ℕ → Option RequestHead → Refusal → Type 0
IsRefused bytes None refusal = (refusal ≡ Head) × HasNoHead bytes
IsRefused bytes (Some head) refusal = HasFault bytes head refusal

-- bytes are these requests, none of which ends the connection, followed by rest
abbrev pub Begins : List ℕ → List Request → List ℕ → Type 0
Begins bytes [] rest = bytes ≡ rest
Begins bytes (request ∷ requests) rest =
    (middle : List ℕ) × IsRequest bytes request middle × (asks_to_close request.head ≡ false) × Begins middle requests rest

-- how the bytes of a connection end
pub data Ending : Type 0 where
  -- not seen
  going : Ending
  -- after a request, or without any bytes
  closed : Ending
  -- with a request that ends the connection
  asked : Request → Ending
  -- with an invalid request: its head, if it has one, and the reason
  refused : Option RequestHead → Refusal → Ending

-- the bytes after the requests have this ending
abbrev pub EndsAs : List ℕ → Ending → Type 0
EndsAs bytes going = ⊤
EndsAs bytes closed = bytes ≡ []
EndsAs bytes (asked request) = (rest : List ℕ) × IsRequest bytes request rest × (asks_to_close request.head ≡ true)
EndsAs bytes (refused head refusal) = (0 < length bytes) × IsRefused bytes head refusal

-- all the bytes of a connection are these requests, followed by this ending
abbrev pub Requests : List ℕ → List Request → Ending → Type 0
Requests bytes requests ending = (rest : List ℕ) × Begins bytes requests rest × EndsAs rest ending
