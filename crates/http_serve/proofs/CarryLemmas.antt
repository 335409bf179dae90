-- Sequences of requests, and their replies.
use Rattle.std.proofs.Common.{◌≡◌, ℕ, List, [], ◌∷◌, ◌++◌, Option, true, false, take, length, ◌+◌, ◌-◌, ◌^◌, ◌<◌, min, inr, arith, length-append}
use Rattle.std.proofs.Common.{refl, sym, ap, ◌∙◌, subst, append_assoc}
use Rattle.std.proofs.lemmas.List.{append-nil}
use Rattle.std.specs.Io.KnownBytes.{Appends}
use Rattle.httparse.specs.Grammar.{RequestHead}
use Rattle.http_requests.specs.declared.refusals.Refusal.{Refusal}
use Rattle.http_requests.specs.Requests.{Request, IsHead, IsRequest, Begins, Ending, going, closed, asked, refused, EndsAs, IsRefused, asks_to_close}
use Rattle.http_requests.specs.Requests.{RequestView, request_view, request_view_at, path_of, query_of, is_head}
use Rattle.httparse.specs.declared.spans.HeaderSpan.{HeaderSpan}
use Rattle.http_requests.specs.declared.frames.Frame.{Frame}
use Rattle.http_requests.specs.Frame.{IsFrameOf}
use Rattle.http_serve.specs.Reply.{ReplyView, reply_bytes, reply_to, reply_at, refusal_bytes}
use Rattle.http_serve.specs.Served.{RisesBy, reply_count, Answers, AnswersEnd, AnswersNext, RepliesNext, Carries, Ends, Breaks, StopsNext, Anything}
use Rattle.http_serve.specs.Parts.{IsStopped}
use Rattle.http_requests.proofs.HeadLemmas.{IsHead-append}
use Rattle.http_serve.proofs.KnownLemmas.{Appends-then, Appends_none}

IsRequest-append : (bytes more : List ℕ) (request : Request) (rest : List ℕ) → IsRequest bytes request rest
    → IsRequest (bytes ++ more) request (rest ++ more)
IsRequest-append bytes more request rest is = record {
  head =
      subst (λ (t : List ℕ). IsHead (bytes ++ more) request.head t) (append_assoc request.body rest more)
      (IsHead-append bytes more request.head (request.body ++ rest) is.head);
  body = is.body;
}

pub Begins-append : (more : List ℕ) (bytes : List ℕ) (requests : List Request) (rest : List ℕ) → Begins bytes requests rest
    → Begins (bytes ++ more) requests (rest ++ more)
Begins-append more bytes [] rest is = ap (λ (t : List ℕ). t ++ more) is
Begins-append more bytes (request ∷ requests) rest is =
    (is.0 ++ more, IsRequest-append bytes more request is.0 is.1, is.2, Begins-append more is.0 requests rest is.3)

pub Begins-then : (bytes : List ℕ) (requests others : List Request) (middle rest : List ℕ) → Begins bytes requests middle
    → Begins middle others rest → Begins bytes (requests ++ others) rest
Begins-then bytes [] others middle rest x y = subst (λ (t : List ℕ). Begins t others rest) (sym x) y
Begins-then bytes (request ∷ requests) others middle rest x y = (x.0, x.1, x.2, Begins-then x.0 requests others middle rest x.3 y)

-- ---- counts

pub rises_none : (a : ℕ) → a < 2 ^ 64 → RisesBy a 0 a
rises_none a fits = omega arith

capped_twice : (most a m n : ℕ) → min (min (a + m) most + n) most ≡ min (a + (m + n)) most
capped_twice most a m n = omega arith

pub rises_then : (a m b n c : ℕ) → RisesBy a m b → RisesBy b n c → RisesBy a (m + n) c
rises_then a m b n c x y = y ∙ ap (λ (k : ℕ). min (k + n) (2 ^ 64 - 1)) x ∙ capped_twice (2 ^ 64 - 1) a m n

reply_count_split : (requests : List Request) (ending : Ending) → reply_count requests ending ≡ length requests + reply_count [] ending
reply_count_split requests going = omega arith
reply_count_split requests closed = omega arith
reply_count_split requests (asked request) = refl
reply_count_split requests (refused head refusal) = refl

pub reply_count-append : (requests others : List Request) (ending : Ending)
    → reply_count (requests ++ others) ending ≡ length requests + reply_count others ending
reply_count-append requests others ending =
    omega (arith, reply_count_split (requests ++ others) ending, reply_count_split others ending, length-append requests others)

-- ---- a request in a frame

pub framed_view : (input : List ℕ) (spans : List HeaderSpan) (frame : Frame) (request : Request) → IsFrameOf input spans frame request
    → request_view_at input spans frame ≡ request_view request
framed_view input spans frame request is = λ i. record {
  method = is.method i;
  path = path_of (is.target i);
  query = query_of (is.target i);
  fields = is.fields i;
  body = is.body i;
  close = is.close i;
}

framed_reply : (input : List ℕ) (spans : List HeaderSpan) (frame : Frame) (request : Request) (reply : ReplyView)
    → IsFrameOf input spans frame request → reply_at input frame reply ≡ reply_to request reply
framed_reply input spans frame request reply is = λ i. reply_bytes (is.close i) (is_head (is.method i)) reply

-- the reply of a frame, whichever it is, is the next one to bytes that begin with its request
pub Frame_next : {S : Type 0} (last : S → RequestView → ReplyView → S → Type 0) (old : S) (input : List ℕ) (spans : List HeaderSpan) (frame : Frame)
    (request : Request) (bytes rest : List ℕ) (reply : ReplyView) (new : S) → IsFrameOf input spans frame request → IsRequest bytes request rest
    → last old (request_view_at input spans frame) reply new → AnswersNext last old bytes (reply_at input frame reply) new
Frame_next last old input spans frame request bytes rest reply new is here given = record {
  request = request;
  rest = rest;
  reply = reply;
  is = here;
  replied = subst (λ (q : RequestView). last old q reply new) (framed_view input spans frame request is) given;
  out_is = framed_reply input spans frame request reply is;
}

-- so is one that stops before the rest of its content
pub Frame_stops : {S : Type 0} (replies sends : S → RequestView → ReplyView → S → Type 0) (old : S) (input : List ℕ) (spans : List HeaderSpan) (frame : Frame)
    (request : Request) (bytes rest : List ℕ) (reply : ReplyView) (from size : ℕ) (new : S) (held holds : Option (List ℕ))
    → IsFrameOf input spans frame request → IsRequest bytes request rest
    → replies old (request_view_at input spans frame) reply new → sends old (request_view_at input spans frame) reply new
    → IsStopped (reply_at input frame reply) reply.content from size held holds
    → StopsNext replies sends old bytes held frame.close from size new holds
Frame_stops replies sends old input spans frame request bytes rest reply from size new held holds is here given sent stopped = record {
  request = request;
  rest = rest;
  reply = reply;
  is = here;
  replied = subst (λ (q : RequestView). replies old q reply new) (framed_view input spans frame request is) given;
  sent = subst (λ (q : RequestView). sends old q reply new) (framed_view input spans frame request is) sent;
  close_is = is.close;
  stopped = subst (λ (t : List ℕ). IsStopped t reply.content from size held holds) (framed_reply input spans frame request reply is) stopped;
}

-- ---- replies

module _ {S : Type 0} (replies : S → RequestView → ReplyView → S → Type 0) where
  pub Answers-then : (old : S) (requests others : List Request) (a b : List ℕ) (middle new : S)
      → Answers replies old requests a middle → Answers replies middle others b new → Answers replies old (requests ++ others) (a ++ b) new
  Answers-then old [] others a b middle new x y =
      let start : Answers replies old others b new = subst (λ (s : S). Answers replies s others b new) x.1 y in
      subst (λ (t : List ℕ). Answers replies old others (t ++ b) new) (sym x.0) start
  Answers-then old (request ∷ requests) others a b middle new x y = (
    x.0,
    x.1,
    x.2 ++ b,
    x.3,
    ap (λ (t : List ℕ). t ++ b) x.4 ∙ append_assoc (reply_to request x.0) x.2 b,
    Answers-then x.1 requests others x.2 b middle new x.5 y,
  )

  pub Carries_start : (old : S) (bytes : List ℕ) (held : Option (List ℕ)) (before : ℕ) → before < 2 ^ 64
      → Carries replies old bytes held before old bytes held before
  Carries_start old bytes held before fits = record {
    requests = [];
    out = [];
    begins = refl;
    answers = (refl, refl);
    written = Appends_none held;
    counted = rises_none before fits;
  }

  -- one more request is answered
  Carries_push : (old : S) (bytes : List ℕ) (held : Option (List ℕ)) (before : ℕ) (middle : S) (input : List ℕ) (holds : Option (List ℕ)) (so_far : ℕ)
      (request : Request) (reply : ReplyView) (new : S) (rest : List ℕ) (now : Option (List ℕ)) (after : ℕ)
      → Carries replies old bytes held before middle input holds so_far → IsRequest input request rest → asks_to_close request.head ≡ false
      → replies middle (request_view request) reply new → Appends holds now (reply_to request reply) → RisesBy so_far 1 after
      → Carries replies old bytes held before new rest now after
  Carries_push old bytes held before middle input holds so_far request reply new rest now after so is goes_on given sent one = record {
    requests = so.requests ++ request ∷ [];
    out = so.out ++ reply_to request reply;
    begins = Begins-then bytes so.requests (request ∷ []) input rest so.begins (rest, is, goes_on, refl);
    answers =
        Answers-then old so.requests (request ∷ []) so.out (reply_to request reply) middle new so.answers
        (reply, new, [], given, sym (append-nil (reply_to request reply)), (refl, refl));
    written = Appends-then held holds now so.out (reply_to request reply) so.written sent;
    counted =
        subst (λ (n : ℕ). RisesBy before n after) (sym (length-append so.requests (request ∷ [])))
        (rises_then before (length so.requests) so_far 1 after so.counted one);
  }

  -- what comes next ends the connection
  pub Ends_push : (old : S) (bytes : List ℕ) (held : Option (List ℕ)) (before : ℕ) (middle : S) (input : List ℕ) (holds : Option (List ℕ)) (so_far : ℕ)
      (follow : List ℕ → Type 0) (ending : Ending) (last : List ℕ) (new : S) (now : Option (List ℕ)) (after : ℕ)
      → Carries replies old bytes held before middle input holds so_far → ((more : List ℕ) → follow more → EndsAs (input ++ more) ending)
      → AnswersEnd replies middle ending last new → Appends holds now last → RisesBy so_far (reply_count [] ending) after
      → Ends replies old bytes follow held before ending new now after
  Ends_push old bytes held before middle input holds so_far follow ending last new now after so ends given sent count = record {
    requests = so.requests;
    out = so.out ++ last;
    reads = λ more h. (input ++ more, Begins-append more bytes so.requests input so.begins, ends more h);
    answers = record { middle = middle; front = so.out; last = last; each = so.answers; end = given; is = refl };
    written = Appends-then held holds now so.out last so.written sent;
    counted =
        subst (λ (n : ℕ). RisesBy before n after) (sym (reply_count_split so.requests ending))
        (rises_then before (length so.requests) so_far (reply_count [] ending) after so.counted count);
  }

  -- of the next reply the first bytes are written
  pub Breaks_at : (IsNext : S → List ℕ → List ℕ → S → Type 0) (old : S) (bytes : List ℕ) (held : Option (List ℕ)) (before : ℕ)
      (middle : S) (input : List ℕ) (holds : Option (List ℕ)) (so_far : ℕ) (next : List ℕ) (n : ℕ) (new : S) (now : Option (List ℕ))
      → Carries replies old bytes held before middle input holds so_far → IsNext middle input next new
      → n < length next → Appends holds now (take n next) → Breaks replies IsNext old bytes held before new now so_far
  Breaks_at IsNext old bytes held before middle input holds so_far next n new now so is cut sent = record {
    middle = middle;
    rest = input;
    between = holds;
    carries = so;
    next = next;
    count = n;
    replied = is;
    cut = cut;
    written = sent;
  }

  -- a write failed in a refusal
  pub Breaks_refused : (old : S) (bytes : List ℕ) (held : Option (List ℕ)) (before : ℕ) (middle : S) (input : List ℕ) (holds : Option (List ℕ)) (so_far : ℕ)
      (follow : List ℕ → Type 0) (head : Option RequestHead) (refusal : Refusal) (n : ℕ) (now : Option (List ℕ))
      → Carries replies old bytes held before middle input holds so_far
      → 0 < length input → ((more : List ℕ) → follow more → IsRefused (input ++ more) head refusal)
      → n < length (refusal_bytes head refusal) → Appends holds now (take n (refusal_bytes head refusal))
      → Breaks replies (RepliesNext replies follow) old bytes held before middle now so_far
  Breaks_refused old bytes held before middle input holds so_far follow head refusal n now so some is cut sent =
      Breaks_at (RepliesNext replies follow) old bytes held before middle input holds so_far (refusal_bytes head refusal) n middle now so
      (inr (record { head = head; refusal = refusal; some = some; is = is; same = refl; out_is = refl })) cut sent

  -- ---- a request in a frame

  module _ (old : S) (bytes : List ℕ) (held : Option (List ℕ)) (before : ℕ) (middle : S) (input : List ℕ) (holds : Option (List ℕ)) (so_far : ℕ)
      (spans : List HeaderSpan) (frame : Frame) (request : Request) (here rest : List ℕ) (reply : ReplyView) (new : S) (now : Option (List ℕ))
      (so : Carries replies old bytes held before middle here holds so_far) (is : IsFrameOf input spans frame request)
      (whole : IsRequest here request rest) (given : replies middle (request_view_at input spans frame) reply new) where
    asked_so : replies middle (request_view request) reply new
    asked_so = subst (λ (q : RequestView). replies middle q reply new) (framed_view input spans frame request is) given

    -- the reply of the frame is the reply to its request
    same_reply : reply_at input frame reply ≡ reply_to request reply
    same_reply = framed_reply input spans frame request reply is

    pub Frame_push : (after : ℕ) → frame.close ≡ false → Appends holds now (reply_at input frame reply) → RisesBy so_far 1 after
        → Carries replies old bytes held before new rest now after
    Frame_push after goes_on sent one =
        Carries_push old bytes held before middle here holds so_far request reply new rest now after so whole
        (sym is.close ∙ goes_on) asked_so
        (subst (λ (t : List ℕ). Appends holds now t) same_reply sent) one

    pub Frame_ends : (after : ℕ) → frame.close ≡ true → Appends holds now (reply_at input frame reply) → RisesBy so_far 1 after
        → Ends replies old bytes Anything held before (asked request) new now after
    Frame_ends after closes sent one =
        Ends_push old bytes held before middle here holds so_far Anything (asked request) (reply_to request reply) new now after so
        (λ more _. (rest ++ more, IsRequest-append here more request rest whole, sym is.close ∙ closes))
        (reply, asked_so, refl)
        (subst (λ (t : List ℕ). Appends holds now t) same_reply sent) one
