-- What was found in bytes that are lent is answered.
use Rattle.std.proofs.Common.{◌≡◌, ◌≢◌, ℕ, ◌<◌, List, [], Bool, Option, Some, None, true, false, take, drop, length, length-append, length-drop}
use Rattle.std.proofs.Common.{refl, sym, ap, ◌∙◌, subst, arith}
use Rattle.std.specs.Prelude.{Result, Ok, Err, IfOk, OnErr}
use Rattle.std.specs.declared.alloc.AllocError.{AllocError}
use Rattle.std.proofs.lemmas.List.{append-nil, take_at}
use Rattle.std.specs.Io.KnownBytes.{Appends, Consumes}
use Rattle.httparse.specs.Grammar.{RequestHead}
use Rattle.httparse.specs.Spans.{span_bytes}
use Rattle.httparse.specs.declared.spans.HeaderSpan.{HeaderSpan}
use Rattle.http_requests.specs.declared.frames.Frame.{Frame}
use Rattle.http_requests.specs.declared.refusals.Refusal.TheVariants.{Head}
use Rattle.http_requests.specs.declared.refusals.Rejection.{Rejection}
use Rattle.http_requests.specs.declared.refusals.TheConstants.{NO_HEAD}
use Rattle.http_requests.specs.Frame.{IsFrameOf}
use Rattle.http_requests.specs.Requests.{Request, IsRequest, IsRefused, RequestView, asked, closed, request_view_at, is_head, has_head_method}
use Rattle.http_requests.proofs.HeadLemmas.{empty_no_head}
use Rattle.http_requests.proofs.ReadingLemmas.{request_alone}
use Rattle.http_serve.specs.declared.connection.End.TheVariants as ends
use Rattle.http_serve.specs.declared.connection.Answer.{Answer}
use Rattle.http_serve.specs.declared.connection.Served.{Served}
use Rattle.http_serve.specs.Found.{AnswersFound, AnswersWhole, AnswersToRest, ServesFound}
use Rattle.http_serve.specs.Parts.{IsStopped}
use Rattle.http_serve.specs.Reply.{ReplyView, reply_at}
use Rattle.http_serve.specs.Served.{AnswersNext, Carries}
use Rattle.http_serve.specs.Steps.{IsFinished}
use Rattle.http_serve.specs.Connections.{Replied, answered, once_replied}
use Rattle.http_serve.specs.declared.answers.Rest.{Rest}
use Rattle.http_serve.proofs.AnswerLemmas.{leaves_stopped}
use Rattle.http_serve.proofs.CarryLemmas.{Breaks_at, Carries_start, Frame_next, Frame_push, Frame_ends, Frame_stops, rises_none}
use Rattle.http_serve.proofs.KnownLemmas.{Appends_none}
use Rattle.http_serve.proofs.ServeLemmas.{IsSoFar, SoFar_start, SoFar_told, SoFar_part, SoFar_left, SoFar_done}
use Rattle.http_serve.proofs.ServeLemmas.{served_input, finished_other, asked_other}

closed_other : ends.Closed ≢ ends.Turns
closed_other e = cc

module _ {S : Type 0} (replies sends : S → RequestView → ReplyView → S → Type 0) (old : S) (held : Option (List ℕ)) where
  all_read : (bytes : List ℕ) → Consumes (Some bytes) (Some []) bytes
  all_read bytes = sym (append-nil bytes)

  start : (bytes : List ℕ) → IsSoFar replies old (Some bytes) held old (Some bytes) held 0 [] NO_HEAD
  start bytes = SoFar_start replies old (Some bytes) held [] refl

  -- one request is answered, and nothing is left
  abbrev one_answered : (bytes : List ℕ) (new : S) (holds : Option (List ℕ)) → Carries replies old bytes held 0 new [] holds 1
      → IsSoFar replies old (Some bytes) held new (Some []) holds 1 [] NO_HEAD
  one_answered bytes new holds so = record {
    bytes = bytes;
    read = all_read bytes;
    carries = so;
    head = None;
    bare = refl;
    refused = (refl, empty_no_head [] refl);
  }

  -- bytes that are refused
  module _ (bytes : List ℕ) (head : Option RequestHead) (rejection : Rejection) (bare : rejection.bare ≡ has_head_method head)
      (is : IsRefused bytes head rejection.refusal) (holds : Option (List ℕ)) where
    abbrev none_found : IsSoFar replies old (Some bytes) held old (Some []) held 0 bytes rejection
    none_found = record {
      bytes = bytes;
      read = all_read bytes;
      carries = Carries_start replies old bytes held 0 (omega arith);
      head = head;
      bare = bare;
      refused = is;
    }

    serves_finished : (served : Served) → IsFinished bytes head rejection.refusal held 0 served holds
        → AnswersWhole replies old bytes held served old holds
    serves_finished served done =
        let told = SoFar_done replies old (Some bytes) held old (Some []) held 0 bytes rejection none_found 0 [] (Some []) holds bytes refl
        (sym (append-nil bytes)) refl refl (λ _. refl) served done in
        record {
          input = served_input replies old (Some bytes) held served old (Some []) holds told;
          told = told;
          ended = finished_other served.end done.ending done.last done.told done.plain;
        }

    -- or there was no memory
    pub serves_rest : (result : Result Answer AllocError)
        → IfOk result (λ answer. IsFinished bytes head rejection.refusal held 0 answer.served holds)
        → IfOk result (λ answer. answer.rest ≡ None) → OnErr result (holds ≡ held) → ServesFound replies sends old bytes held result old holds
    serves_rest (Ok answer) done none failed = record {
      answers = subst (λ (rest : Option Rest). AnswersFound replies sends old bytes held answer.served rest old holds) (sym none)
          (serves_finished answer.served done);
      none = tt;
    }
    serves_rest (Err fault) done none failed = record { answers = tt; none = (refl, failed) }

  -- the request in a frame
  module _ (input : List ℕ) (spans : List HeaderSpan) (frame : Frame) (request : Request) (is : IsFrameOf input spans frame request) (new : S)
      (holds : Option (List ℕ)) where
    alone : IsRequest (take frame.body.end input) request []
    alone = request_alone input request frame.body.end is.body_within.1 is.is

    serves_asked : (reply : ReplyView) → replies old (request_view_at input spans frame) reply new → Appends held holds (reply_at input frame reply)
        → frame.close ≡ true
        → AnswersWhole replies old (take frame.body.end input) held (record { requests = 1; end = ends.Asked }) new holds
    serves_asked reply given sent closes =
        let asks = take frame.body.end input in
        let served : Served = record { requests = 1; end = ends.Asked } in
        let told = SoFar_told replies old (Some asks) held old (Some asks) held 0 [] NO_HEAD (start asks) asks (Some []) (all_read asks) new holds asks refl
        served (asked request)
        (Frame_ends replies old asks held 0 old input held 0 spans frame request asks [] reply new holds
        (Carries_start replies old asks held 0 (omega arith)) is alone given 1 closes sent (omega arith))
        refl asked_other in
        record {
          input = served_input replies old (Some asks) held served new (Some []) holds told;
          told = told;
          ended = asked_other;
        }

    serves_on : (reply : ReplyView) → replies old (request_view_at input spans frame) reply new → Appends held holds (reply_at input frame reply)
        → frame.close ≡ false
        → AnswersWhole replies old (take frame.body.end input) held (record { requests = 1; end = ends.Closed }) new holds
    serves_on reply given sent goes_on =
        let asks = take frame.body.end input in
        let served : Served = record { requests = 1; end = ends.Closed } in
        let so : IsSoFar replies old (Some asks) held new (Some []) holds 1 [] NO_HEAD =
        one_answered asks new holds
        (Frame_push replies old asks held 0 old input held 0 spans frame request asks [] reply new holds
        (Carries_start replies old asks held 0 (omega arith)) is alone given 1 goes_on sent (omega arith)) in
        let done : IsFinished [] None Head holds 1 served holds =
        record {
          ending = closed;
          last = [];
          told = refl;
          plain = refl;
          ends = λ _. refl;
          written = Appends_none holds;
          counted = rises_none 1 (omega arith);
        } in
        let told = SoFar_done replies old (Some asks) held new (Some []) holds 1 [] NO_HEAD so 0 [] (Some []) holds [] refl refl refl refl (λ _. refl)
        served done in
        record {
          input = served_input replies old (Some asks) held served new (Some []) holds told;
          told = told;
          ended = closed_other;
        }

    -- the reply stops before the rest of its content
    serves_left : (reply : ReplyView) (rest : Rest) → replies old (request_view_at input spans frame) reply new
        → sends old (request_view_at input spans frame) reply new
        → IsStopped (reply_at input frame reply) reply.content rest.from rest.length held holds
        → AnswersToRest replies sends old (take frame.body.end input) held (once_replied frame.close) rest new holds
    serves_left reply rest given sent stopped =
        let asks = take frame.body.end input in
        let so = Carries_start replies old asks held 0 (omega arith) in
        let all = reply_at input frame reply in
        let n = length stopped.front in
        let cut : n < length all =
        omega (
          arith,
          ap length stopped.whole,
          length-append stopped.front (drop rest.from reply.content),
          length-drop rest.from reply.content,
          stopped.size_is,
          stopped.some,
        ) in
        let front : take n all ≡ stopped.front = ap (take n) stopped.whole ∙ take_at stopped.front (drop rest.from reply.content) n refl in
        record {
          close = frame.close;
          counted = refl;
          part = SoFar_part replies old (Some asks) held old (Some asks) held 0 [] NO_HEAD (start asks) asks (Some []) (all_read asks) new holds asks refl
              0
              (Breaks_at replies (AnswersNext replies) old asks held 0 old asks held 0 all n new holds so
              (Frame_next replies old input spans frame request asks [] reply new is alone given) cut
              (subst (λ (t : List ℕ). Appends held holds t) (sym front) stopped.written));
          stops = SoFar_left replies old (Some asks) held old (Some asks) held 0 [] NO_HEAD (start asks) asks (Some []) (all_read asks) new holds asks refl
              sends 0 frame.close rest.from rest.length
              (record {
                middle = old;
                rest = asks;
                between = held;
                carries = so;
                next = Frame_stops replies sends old input spans frame request asks [] reply rest.from rest.length new held holds is alone given sent
                    stopped;
              });
        }

    -- what is to be sent of the reply
    found_replied : (rest : Option Rest) (size : S → ℕ) (output : List ℕ) → held ≡ Some [] → holds ≡ Some output
        → Replied replies sends size old input spans frame rest new output
        → AnswersFound replies sends old (take frame.body.end input) held (once_replied frame.close) rest new holds
    found_replied None size output from to told = closing frame.close refl
      where
        sent : Appends held holds (reply_at input frame told.reply)
        sent = rw from (rw to told.shown)

        closing : (close : Bool) → frame.close ≡ close → AnswersWhole replies old (take frame.body.end input) held (once_replied close) new holds
        closing true closes = serves_asked told.reply told.given sent closes
        closing false closes = serves_on told.reply told.given sent closes
    found_replied (Some rest) size output from to told =
        serves_left told.reply rest told.given told.left.0
        (rw from (rw to (leaves_stopped frame.close (is_head (span_bytes input frame.method)) told.reply rest output told.shown)))

    pub serves_replied : (rest : Option Rest) (size : S → ℕ) (output : List ℕ) → held ≡ Some [] → holds ≡ Some output
        → Replied replies sends size old input spans frame rest new output
        → ServesFound replies sends old (take frame.body.end input) held (Ok (answered frame.close rest)) new holds
    serves_replied rest size output from to told = record { answers = found_replied rest size output from to told; none = tt }
