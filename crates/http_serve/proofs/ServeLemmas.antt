-- A connection, read by read.
use Rattle.std.proofs.Common.{◌≡◌, ◌≢◌, ℕ, Bool, ◌<◌, ◌≤◌, List, [], ◌∷◌, ◌++◌, Option, Some, None, take, length, ◌+◌, ◌*◌, refl, sym, ap, ◌∙◌, subst}
use Rattle.std.proofs.Common.{append_assoc, arith, inl, inr, length-append, zero, suc}
use Rattle.std.specs.Prelude.{⊤, Result, Ok, Err, IfOk, IfErr, OnErr}
use Rattle.httparse.specs.Grammar.{RequestHead}
use Rattle.std.proofs.lemmas.List.{append-nil}
use Rattle.std.specs.Io.KnownBytes.{Appends, Consumes, IsAtEnd}
use Rattle.http_requests.specs.declared.refusals.Refusal.{Refusal}
use Rattle.http_requests.specs.declared.refusals.Rejection.{Rejection}
use Rattle.http_requests.specs.declared.refusals.TheConstants.{NO_HEAD}
use Rattle.http_serve.specs.declared.connection.End.{End}
use Rattle.http_serve.specs.declared.connection.End.TheVariants.{Closed, Asked, Refused, Turns}
use Rattle.http_serve.specs.declared.connection.Served.{Served}
use Rattle.http_serve.specs.declared.connection.ServeFault.{ServeFault}
use Rattle.http_serve.specs.declared.connection.ServeFault.TheVariants.{Memory, Read, Write, Content}
use Rattle.http_serve.specs.declared.contents.SendFault.{SendFault}
use Rattle.http_serve.specs.declared.contents.SendFault.TheVariants as cuts
use Rattle.http_requests.specs.declared.frames.Frame.{Frame}
use Rattle.http_serve.specs.Buffers.{buffer_size}
use Rattle.http_serve.specs.Reads.{Gives, GivesTimes}
use Rattle.httparse.specs.declared.spans.HeaderSpan.{HeaderSpan}
use Rattle.http_requests.specs.Frame.{IsFrameOf}
use Rattle.http_serve.specs.Parts.{GivesOrFails, cut_after}
use Rattle.http_requests.specs.Requests.{Request, IsRequest, Ending, going, closed, asked, refused, EndsAs, IsRefused, Requests}
use Rattle.http_requests.specs.Requests.{RequestView, request_view_at, has_head_method}
use Rattle.http_serve.specs.Reply.{ReplyView, reply_at, refusal_bytes}
use Rattle.http_serve.specs.Served.{RisesBy, reply_count, Answers, AnswersEnd, AnswersAll, AnswersNext, RepliesNext}
use Rattle.http_serve.specs.Served.{Carries, Ends, Breaks, Stops, Anything, MayFollow}
use Rattle.http_serve.specs.Steps.{HasPlainEnd, IsFinished, IsUnfinished, IsBroken}
use Rattle.http_serve.specs.Told.{end_of, IfTurns, IsServed, IsServedTo, IsServedSoFar, IsServedInPart, IsServedUpTo, IsAnswered, LosesAtMost}
use Rattle.http_serve.specs.Told.{HasContent, IsServedToRest, MeetsTurns, KeepsTurns, AnswersInput}
use Rattle.http_requests.proofs.HeadLemmas.{empty_no_head, refused_none}
use Rattle.http_serve.proofs.KnownLemmas.{Appends-then, Consumes-then, Consumes_none}
use Rattle.http_serve.proofs.CarryLemmas.{Begins-append, Begins-then, Answers-then, Carries_start, Ends_push}
use Rattle.http_serve.proofs.CarryLemmas.{Frame_next, Breaks_at, Breaks_refused}
use Rattle.http_serve.proofs.CarryLemmas.{rises_then, reply_count-append}

pub finished_other : (end : End) (ending : Ending) (last : List ℕ) → end ≡ end_of ending → HasPlainEnd ending last → end ≢ Turns
finished_other end going last told plain e = absurd plain
finished_other end closed last told plain e = cc
finished_other end (asked request) last told plain e = cc
finished_other end (refused head refusal) last told plain e = cc

-- The end after a last request isn't the limit on reads.
pub asked_other : Asked ≢ Turns
asked_other e = cc

-- The end after a refusal isn't the limit on reads.
pub refused_other : Refused ≢ Turns
refused_other e = cc

-- a fact for the value of a result, from another
pub if_ok : {A E : Type 0} (r : Result A E) (P Q : A → Type 0) → ((a : A) → P a → Q a) → IfOk r P → IfOk r Q
if_ok (Ok a) P Q f x = f a x
if_ok (Err e) P Q f x = tt

-- a fact of an error, and one that follows
pub on_err : {A E : Type 0} {P Q : Type 0} (r : Result A E) → (P → Q) → OnErr r P → OnErr r Q
on_err (Ok a) f x = tt
on_err (Err e) f x = f x

pub if_err : {A E : Type 0} (r : Result A E) (P Q : E → Type 0) → ((e : E) → P e → Q e) → IfErr r P → IfErr r Q
if_err (Ok a) P Q f x = tt
if_err (Err e) P Q f x = f e x

no_items : (xs : List ℕ) → length xs ≡ 0 → xs ≡ []
no_items [] e = refl
no_items (x ∷ xs) e = absurd (omega arith)

not_turns : (end : End) (stopped ended : Type 0) → end ≢ Turns → ended → IfTurns end stopped ended
not_turns Closed stopped ended other x = x
not_turns Asked stopped ended other x = x
not_turns Refused stopped ended other x = x
not_turns Turns stopped ended other x = absurd (other refl)

-- the replies to the whole requests of the bytes so far are written, and what is left begins with none
pub record IsSoFar {S : Type 0} (replies : S → RequestView → ReplyView → S → Type 0) (old : S) (left held : Option (List ℕ))
    (new : S) (leaves holds : Option (List ℕ)) (requests : ℕ) (waiting : List ℕ) (reason : Rejection) : Type 0 where
  pub bytes : List ℕ
  pub read : Consumes left leaves bytes
  pub carries : Carries replies old bytes held 0 new waiting holds requests
  pub head : Option RequestHead
  pub bare : reason.bare ≡ has_head_method head
  pub refused : IsRefused waiting head reason.refusal

-- what a reply leaves that was cut, to bytes that begin with the request of its frame
module _ {S : Type 0} (old : S) (bytes : List ℕ) (held : Option (List ℕ)) (before : ℕ) (middle : S) (input : List ℕ) (holds : Option (List ℕ)) (so_far : ℕ)
    (spans : List HeaderSpan) (frame : Frame) (request : Request) (here rest : List ℕ) (is : IsFrameOf input spans frame request)
    (whole : IsRequest here request rest) where
  pub cut_breaks : (replies fails : S → RequestView → ReplyView → S → Type 0) (reply : ReplyView) (n : ℕ) (new : S) (now : Option (List ℕ)) (fault : SendFault)
      → Carries replies old bytes held before middle here holds so_far
      → GivesOrFails (Err fault) (replies middle (request_view_at input spans frame) reply new) (fails middle (request_view_at input spans frame) reply new)
      → n < length (reply_at input frame reply) → Appends holds now (take n (reply_at input frame reply))
      → IsBroken replies fails old bytes held before (cut_after so_far fault) new now
  cut_breaks replies fails reply n new now cuts.Write so given cut sent =
      Breaks_at replies (RepliesNext replies Anything) old bytes held before middle here holds so_far (reply_at input frame reply) n new now so
      (inl (Frame_next replies middle input spans frame request here rest reply new is whole given)) cut sent
  cut_breaks replies fails reply n new now cuts.Content so given cut sent =
      Breaks_at replies (AnswersNext fails) old bytes held before middle here holds so_far (reply_at input frame reply) n new now so
      (Frame_next fails middle input spans frame request here rest reply new is whole given) cut sent

module _ {S : Type 0} (replies : S → RequestView → ReplyView → S → Type 0) where
  pub SoFar_start : (old : S) (left held : Option (List ℕ)) (waiting : List ℕ) → waiting ≡ []
      → IsSoFar replies old left held old left held 0 waiting NO_HEAD
  SoFar_start old left held waiting empty =
      let none = empty_no_head waiting (ap length empty) in
      record {
        bytes = waiting;
        read = subst (λ (t : List ℕ). Consumes left left t) (sym empty) (Consumes_none left);
        carries = Carries_start replies old waiting held 0 (omega arith);
        head = None;
        bare = refl;
        refused = (refl, none);
      }

  -- more is read
  Carries-more : (old : S) (bytes : List ℕ) (held : Option (List ℕ)) (before : ℕ) (new : S) (rest : List ℕ)
      (holds : Option (List ℕ)) (after : ℕ) (more : List ℕ)
      → Carries replies old bytes held before new rest holds after → Carries replies old (bytes ++ more) held before new (rest ++ more) holds after
  Carries-more old bytes held before new rest holds after more so = record {
    requests = so.requests;
    out = so.out;
    begins = Begins-append more bytes so.requests rest so.begins;
    answers = so.answers;
    written = so.written;
    counted = so.counted;
  }

  Carries-then : (old : S) (bytes : List ℕ) (held : Option (List ℕ)) (before : ℕ) (middle : S) (input : List ℕ) (holds : Option (List ℕ)) (so_far : ℕ)
      (new : S) (rest : List ℕ) (now : Option (List ℕ)) (after : ℕ)
      → Carries replies old bytes held before middle input holds so_far → Carries replies middle input holds so_far new rest now after
      → Carries replies old bytes held before new rest now after
  Carries-then old bytes held before middle input holds so_far new rest now after x y = record {
    requests = x.requests ++ y.requests;
    out = x.out ++ y.out;
    begins = Begins-then bytes x.requests y.requests input rest x.begins y.begins;
    answers = Answers-then replies old x.requests y.requests x.out y.out middle new x.answers y.answers;
    written = Appends-then held holds now x.out y.out x.written y.written;
    counted =
        subst (λ (n : ℕ). RisesBy before n after) (sym (length-append x.requests y.requests))
        (rises_then before (length x.requests) so_far (length y.requests) after x.counted y.counted);
  }

  All-then : (old : S) (requests others : List Request) (a b : List ℕ) (middle new : S) (ending : Ending)
      → Answers replies old requests a middle → AnswersAll replies middle others ending b new
      → AnswersAll replies old (requests ++ others) ending (a ++ b) new
  All-then old requests others a b middle new ending x y = record {
    middle = y.middle;
    front = a ++ y.front;
    last = y.last;
    each = Answers-then replies old requests others a y.front middle y.middle x y.each;
    end = y.end;
    is = ap (λ (t : List ℕ). a ++ t) y.is ∙ sym (append_assoc a y.front y.last);
  }

  Ends-then : (old : S) (bytes : List ℕ) (held : Option (List ℕ)) (before : ℕ) (middle : S) (input : List ℕ) (holds : Option (List ℕ)) (so_far : ℕ)
      (follow : List ℕ → Type 0) (ending : Ending) (new : S) (now : Option (List ℕ)) (after : ℕ)
      → Carries replies old bytes held before middle input holds so_far → Ends replies middle input follow holds so_far ending new now after
      → Ends replies old bytes follow held before ending new now after
  Ends-then old bytes held before middle input holds so_far follow ending new now after x y = record {
    requests = x.requests ++ y.requests;
    out = x.out ++ y.out;
    reads = λ more h.
        let r = y.reads more h in
        (r.0, Begins-then (bytes ++ more) x.requests y.requests (input ++ more) r.0 (Begins-append more bytes x.requests input x.begins) r.1, r.2);
    answers = All-then old x.requests y.requests x.out y.out middle new ending x.answers y.answers;
    written = Appends-then held holds now x.out y.out x.written y.written;
    counted =
        subst (λ (n : ℕ). RisesBy before n after) (sym (reply_count-append x.requests y.requests ending))
        (rises_then before (length x.requests) so_far (reply_count y.requests ending) after x.counted y.counted);
  }

  -- what is refused whatever follows is refused with what may follow
  Next-follows : (old : S) (bytes out : List ℕ) (follow : List ℕ → Type 0) (new : S)
      → RepliesNext replies Anything old bytes out new → RepliesNext replies follow old bytes out new
  Next-follows old bytes out follow new (inl answered) = inl answered
  Next-follows old bytes out follow new (inr refuses) = inr (record {
    head = refuses.head;
    refusal = refuses.refusal;
    some = refuses.some;
    is = λ more _. refuses.is more tt;
    same = refuses.same;
    out_is = refuses.out_is;
  })

  Breaks-then : (old : S) (bytes : List ℕ) (held : Option (List ℕ)) (before : ℕ) (middle : S) (input : List ℕ) (holds : Option (List ℕ)) (so_far : ℕ)
      (IsNext IsThen : S → List ℕ → List ℕ → S → Type 0) (new : S) (now : Option (List ℕ)) (after : ℕ)
      → ((at : S) (rest next : List ℕ) → IsNext at rest next new → IsThen at rest next new)
      → Carries replies old bytes held before middle input holds so_far → Breaks replies IsNext middle input holds so_far new now after
      → Breaks replies IsThen old bytes held before new now after
  Breaks-then old bytes held before middle input holds so_far IsNext IsThen new now after f x y = record {
    middle = y.middle;
    rest = y.rest;
    between = y.between;
    carries = Carries-then old bytes held before middle input holds so_far y.middle y.rest y.between after x y.carries;
    next = y.next;
    count = y.count;
    replied = f y.middle y.rest y.next y.replied;
    cut = y.cut;
    written = y.written;
  }

  module _ (old : S) (left held : Option (List ℕ)) (middle : S) (leaves holds : Option (List ℕ)) (requests : ℕ) (waiting : List ℕ) (reason : Rejection)
      (so : IsSoFar replies old left held middle leaves holds requests waiting reason) where
    -- a read failed, or the bound on reads is met
    pub SoFar_stops : IsServedSoFar replies old left held requests middle leaves holds
    SoFar_stops = record {
      bytes = so.bytes;
      rest = waiting;
      read = so.read;
      carries = so.carries;
      none = λ request behind. refused_none waiting so.head reason.refusal request behind so.refused;
    }

    -- a read that failed returned no bytes
    pub SoFar_failed_read : (last : Option (List ℕ)) → Consumes leaves last [] → IsServedSoFar replies old left held requests middle last holds
    SoFar_failed_read last came = record {
      bytes = so.bytes;
      rest = waiting;
      read =
          let P : List ℕ → Type 0 = λ t. Consumes left last t in
          subst P (append-nil so.bytes) (Consumes-then left leaves last so.bytes [] so.read came);
      carries = so.carries;
      none = λ request behind. refused_none waiting so.head reason.refusal request behind so.refused;
    }

    module _ (more : List ℕ) (last : Option (List ℕ)) (came : Consumes leaves last more) (new : S) (now : Option (List ℕ))
        (full : List ℕ) (joined : full ≡ waiting ++ more) where
      -- more came, and the whole requests in it are answered
      pub SoFar_goes : (rest : List ℕ) (after : ℕ) (head : Option RequestHead) (next : Rejection)
          → Carries replies middle full holds requests new rest now after
          → next.bare ≡ has_head_method head → IsRefused rest head next.refusal
          → IsSoFar replies old left held new last now after rest next
      SoFar_goes rest after head next y bare none = record {
        bytes = so.bytes ++ more;
        read = Consumes-then left leaves last so.bytes more so.read came;
        carries =
            Carries-then old (so.bytes ++ more) held 0 middle (waiting ++ more) holds requests new rest now after
            (Carries-more old so.bytes held 0 middle waiting holds requests more so.carries)
            (subst (λ (t : List ℕ). Carries replies middle t holds requests new rest now after) joined y);
        head = head;
        bare = bare;
        refused = none;
      }

      SoFar_ends : (served : Served) (ending : Ending) → Ends replies middle full Anything holds requests ending new now served.requests
          → served.end ≡ end_of ending → IsServedTo replies old left held served new last now
      SoFar_ends served ending y told = record {
        bytes = so.bytes ++ more;
        read = Consumes-then left leaves last so.bytes more so.read came;
        ending = ending;
        told = told;
        ends =
            Ends-then old (so.bytes ++ more) held 0 middle (waiting ++ more) holds requests (MayFollow last) ending new now served.requests
            (Carries-more old so.bytes held 0 middle waiting holds requests more so.carries)
            (record {
              requests = y.requests;
              out = y.out;
              reads = λ m _. subst (λ (t : List ℕ). Requests (t ++ m) y.requests ending) joined (y.reads m tt);
              answers = y.answers;
              written = y.written;
              counted = y.counted;
            });
      }

      pub SoFar_told : (served : Served) (ending : Ending) → Ends replies middle full Anything holds requests ending new now served.requests
          → served.end ≡ end_of ending → served.end ≢ Turns → IsServed replies old left held served new last now
      SoFar_told served ending y told other = not_turns served.end _ _ other (SoFar_ends served ending y told)

      SoFar_breaks : (IsNext IsThen : S → List ℕ → List ℕ → S → Type 0) (after : ℕ)
          → ((at : S) (rest next : List ℕ) → IsNext at rest next new → IsThen at rest next new)
          → Breaks replies IsNext middle full holds requests new now after
          → IsServedInPart replies IsThen old left held after new last now
      SoFar_breaks IsNext IsThen after f y = record {
        bytes = so.bytes ++ more;
        read = Consumes-then left leaves last so.bytes more so.read came;
        breaks =
            Breaks-then old (so.bytes ++ more) held 0 middle (waiting ++ more) holds requests IsNext IsThen new now after f
            (Carries-more old so.bytes held 0 middle waiting holds requests more so.carries)
            (subst (λ (t : List ℕ). Breaks replies IsNext middle t holds requests new now after) joined y);
      }

      pub SoFar_broken : (fails : S → RequestView → ReplyView → S → Type 0) (fault : ServeFault)
          → IsBroken replies fails middle full holds requests fault new now → IsServedUpTo replies fails old left held fault new last now
      SoFar_broken fails Memory y = absurd y
      SoFar_broken fails (Read n) y = absurd y
      SoFar_broken fails (Write n) y = SoFar_breaks (RepliesNext replies Anything) (RepliesNext replies (MayFollow last)) n
          (λ at rest next is. Next-follows at rest next (MayFollow last) new is) y
      SoFar_broken fails (Content n) y = SoFar_breaks (AnswersNext fails) (AnswersNext fails) n (λ at rest next is. is) y

      -- a reply that was answered is cut
      pub SoFar_part : (n : ℕ) → Breaks replies (AnswersNext replies) middle full holds requests new now n
          → IsServedInPart replies (AnswersNext replies) old left held n new last now
      SoFar_part n y = SoFar_breaks (AnswersNext replies) (AnswersNext replies) n (λ at rest next is. is) y

      pub SoFar_left : (sends : S → RequestView → ReplyView → S → Type 0) (n : ℕ) (close : Bool) (from size : ℕ)
          → Stops replies sends middle full holds requests close from size new now n
          → IsServedToRest replies sends old left held n close from size new last now
      SoFar_left sends n close from size y =
          let z = subst (λ (t : List ℕ). Stops replies sends middle t holds requests close from size new now n) joined y in
          record {
            bytes = so.bytes ++ more;
            read = Consumes-then left leaves last so.bytes more so.read came;
            stops = record {
              middle = z.middle;
              rest = z.rest;
              between = z.between;
              carries =
                  Carries-then old (so.bytes ++ more) held 0 middle (waiting ++ more) holds requests z.middle z.rest z.between n
                  (Carries-more old so.bytes held 0 middle waiting holds requests more so.carries) z.carries;
              next = z.next;
            };
          }

    -- the input ended
    SoFar_finish : (served : Served) (last : Option (List ℕ)) (now : Option (List ℕ)) → Consumes leaves last [] → IsAtEnd last
        → IsFinished waiting so.head reason.refusal holds requests served now → IsServedTo replies old left held served middle last now
    SoFar_finish served last now came at_end y = record {
      bytes = so.bytes;
      read =
          let P : List ℕ → Type 0 = λ t. Consumes left last t in
          subst P (append-nil so.bytes) (Consumes-then left leaves last so.bytes [] so.read came);
      ending = y.ending;
      told = y.told;
      ends =
          Ends_push replies old so.bytes held 0 middle waiting holds requests (MayFollow last) y.ending y.last middle now served.requests so.carries
          (λ more may. subst (λ (t : List ℕ). EndsAs t y.ending)
          (sym (ap (λ (t : List ℕ). waiting ++ t) (may at_end) ∙ append-nil waiting)) (y.ends so.refused))
          (plain y.ending y.last y.plain) y.written y.counted;
    }
      where
        plain : (ending : Ending) (text : List ℕ) → HasPlainEnd ending text → AnswersEnd replies middle ending text middle
        plain going text h = absurd h
        plain closed text h = (h, refl)
        plain (asked request) text h = absurd h
        plain (refused head refusal) text h = (h, refl)

    SoFar_unfinished : (last : Option (List ℕ)) (count : ℕ) (now : Option (List ℕ)) → Consumes leaves last [] → IsAtEnd last
        → 0 < length waiting → count < length (refusal_bytes so.head reason.refusal) → Appends holds now (take count (refusal_bytes so.head reason.refusal))
        → IsServedInPart replies (RepliesNext replies (MayFollow last)) old left held requests middle last now
    SoFar_unfinished last count now came at_end some cut y = record {
      bytes = so.bytes;
      read =
          let P : List ℕ → Type 0 = λ t. Consumes left last t in
          subst P (append-nil so.bytes) (Consumes-then left leaves last so.bytes [] so.read came);
      breaks =
          Breaks_refused replies old so.bytes held 0 middle waiting holds requests (MayFollow last) so.head reason.refusal count now so.carries some
          (λ more may. subst (λ (t : List ℕ). IsRefused t so.head reason.refusal)
          (sym (ap (λ (t : List ℕ). waiting ++ t) (may at_end) ∙ append-nil waiting)) so.refused) cut y;
    }

    module _ (n : ℕ) (more : List ℕ) (last now : Option (List ℕ)) (full : List ℕ) (came : Consumes leaves last more)
        (joined : full ≡ waiting ++ more) (size : n ≡ length more) (zero : n ≡ 0) where
      none_came : more ≡ []
      none_came = no_items more (omega arith)

      same_waits : full ≡ waiting
      same_waits = joined ∙ ap (λ (t : List ℕ). waiting ++ t) none_came ∙ append-nil waiting

      pub SoFar_done : (n ≡ 0 → IsAtEnd last) → (served : Served)
          → IsFinished full so.head reason.refusal holds requests served now → IsServed replies old left held served middle last now
      SoFar_done at_end served y =
          let z = subst (λ (t : List ℕ). IsFinished t so.head reason.refusal holds requests served now) same_waits y in
          not_turns served.end _ _ (finished_other served.end z.ending z.last z.told z.plain)
          (SoFar_finish served last now (subst (λ (t : List ℕ). Consumes leaves last t) none_came came) (at_end zero) z)

      pub SoFar_failed : (fails : S → RequestView → ReplyView → S → Type 0) → (n ≡ 0 → IsAtEnd last) → (fault : ServeFault)
          → IsUnfinished full so.head reason.refusal holds requests fault now → IsServedUpTo replies fails old left held fault middle last now
      SoFar_failed fails at_end fault y =
          let z = subst (λ (t : List ℕ). IsUnfinished t so.head reason.refusal holds requests fault now) same_waits y in
          subst (λ (f : ServeFault). IsServedUpTo replies fails old left held f middle last now) (sym z.told)
          (SoFar_unfinished last z.count now (subst (λ (t : List ℕ). Consumes leaves last t) none_came came) (at_end zero) z.some z.cut z.written)

  -- if the input is known, all of it is answered
  served_whole : (old : S) (input : List ℕ) (held : Option (List ℕ)) (served : Served) (new : S) (leaves holds : Option (List ℕ))
      → IsServedTo replies old (Some input) held served new leaves holds → IsAnswered replies old input held served new holds
  served_whole old input held served new None holds x = absurd x.read
  served_whole old input held served new (Some behind) holds x = record {
    requests = x.ends.requests;
    ending = x.ending;
    told = x.told;
    reads =
        subst (λ (t : List ℕ). Requests t x.ends.requests x.ending) (sym x.read) (x.ends.reads behind (λ nothing. nothing));
    out = x.ends.out;
    answers = x.ends.answers;
    written = x.ends.written;
    counted = x.ends.counted;
  }

  if_turns : (end : End) (stopped ended other : Type 0) → (ended → other) → IfTurns end stopped ended → IfTurns end ⊤ other
  if_turns Closed stopped ended other f x = f x
  if_turns Asked stopped ended other f x = f x
  if_turns Refused stopped ended other f x = f x
  if_turns Turns stopped ended other f x = tt

  pub served_input : (old : S) (left held : Option (List ℕ)) (served : Served) (new : S) (leaves holds : Option (List ℕ))
      → IsServed replies old left held served new leaves holds → AnswersInput replies old left held served new holds
  served_input old None held served new leaves holds x = tt
  served_input old (Some input) held served new leaves holds x =
      if_turns served.end _ _ _ (served_whole old input held served new leaves holds) x

-- ---- turns

module _ {R : Type 0} (remaining : R → Option (List ℕ)) where
  -- n reads from the current reader are reads + n reads from the first one
  abbrev pub Adds : (reads : ℕ) → (first now : R) → Type 0
  Adds reads first now = (n : ℕ) (last : R) → GivesTimes remaining n now last → GivesTimes remaining (reads + n) first last

  pub adds_none : (first : R) → Adds 0 first first
  adds_none first n last is = let same : n ≡ 0 + n = omega arith in subst (λ (m : ℕ). GivesTimes remaining m first last) same is

  -- one read before others
  one_before : (old middle new : R) (n : ℕ) → Gives remaining old middle → GivesTimes remaining n middle new → GivesTimes remaining (suc n) old new
  one_before old middle new n one is = record { by = by; begins = refl; each = each; ends = is.ends }
    where
      by : ℕ → R
      by zero = old
      by (suc k) = is.by k

      each : (k : ℕ) → k < suc n → Gives remaining (by k) (by (suc k))
      each zero below = subst (λ (r : R). Gives remaining old r) (sym is.begins) one
      each (suc k) below = is.each k (omega arith)

  pub adds_one : (reads : ℕ) (first now next : R) (n : ℕ) (more : List ℕ) → Adds reads first now
      → Consumes (remaining now) (remaining next) more → n ≡ length more → n ≢ 0 → n ≤ buffer_size → Adds (reads + 1) first next
  adds_one reads first now next n more so came size some few k last is =
      let gave : Gives remaining now next = record { bytes = more; some = omega arith; few = omega arith; given = came } in
      let count : reads + suc k ≡ reads + 1 + k = omega arith in
      subst (λ (m : ℕ). GivesTimes remaining m first last) count (so (suc k) last (one_before now next last k gave is))

  pub adds_all : (reads turns : ℕ) (first now : R) → Adds reads first now → reads ≤ turns → turns ≤ reads → GivesTimes remaining turns first now
  adds_all reads turns first now so within over =
      let count : reads + 0 ≡ turns = omega arith in
      subst (λ (m : ℕ). GivesTimes remaining m first now) count
      (so 0 now (record { by = λ k. now; begins = refl; each = λ k below. absurd (omega (arith, below)); ends = refl }))

  -- an end of another kind
  pub other_turns : (turns : ℕ) (old new : R) (end : End) → end ≢ Turns → MeetsTurns remaining turns old new end
  other_turns turns old new end other = not_turns end (GivesTimes remaining turns old new) ⊤ other tt

  pub finished_turns : (turns : ℕ) (old new : R) (waiting : List ℕ) (head : Option RequestHead) (reason : Refusal)
      (held : Option (List ℕ)) (before : ℕ) (served : Served) (holds : Option (List ℕ))
      → IsFinished waiting head reason held before served holds → MeetsTurns remaining turns old new served.end
  finished_turns turns old new waiting head reason held before served holds x =
      other_turns turns old new served.end (finished_other served.end x.ending x.last x.told x.plain)

pub most_start : (input : Option (List ℕ)) (n : ℕ) → LosesAtMost n input input
most_start None n = tt
most_start (Some input) n = omega arith

-- one more read returned n bytes
pub most_more : (input left last : Option (List ℕ)) (a b n : ℕ) (more : List ℕ) → LosesAtMost a input left → Consumes left last more
    → n ≡ length more → a + n ≤ b → LosesAtMost b input last
most_more None left last a b n more so came size few = tt
most_more (Some input) None last a b n more so came size few = absurd so
most_more (Some input) (Some left) None a b n more so came size few = absurd came
most_more (Some input) (Some left) (Some last) a b n more so came size few =
    omega (arith, ap length came, length-append more last)

-- One more read within the limit on reads loses no more bytes than the reads of the limit do.
pub most_last : (input left last : Option (List ℕ)) (turn turns n : ℕ) (more : List ℕ) → LosesAtMost (turn * buffer_size) input left
    → Consumes left last more → n ≡ length more → n ≤ buffer_size → turn < turns → LosesAtMost (turns * buffer_size) input last
most_last input left last turn turns n more so came size few below =
    most_more input left last (turn * buffer_size) (turns * buffer_size) n more so came size (omega (arith, few, below))

-- no read failed in what the input's end is answered with
pub finished_reads : (turns : ℕ) (input left : Option (List ℕ)) (waiting : List ℕ) (head : Option RequestHead) (reason : Refusal)
    (held : Option (List ℕ)) (before : ℕ) (result : Result Served ServeFault) (holds : Option (List ℕ))
    → LosesAtMost (turns * buffer_size) input left
    → IfErr result (λ fault. IsUnfinished waiting head reason held before fault holds) → KeepsTurns turns result input left
finished_reads turns input left waiting head reason held before (Ok served) holds so x = so
finished_reads turns input left waiting head reason held before (Err Memory) holds so x = let told = x.told in absurd (cc)
finished_reads turns input left waiting head reason held before (Err (Read n)) holds so x = let told = x.told in absurd (cc)
finished_reads turns input left waiting head reason held before (Err (Write n)) holds so x = so
finished_reads turns input left waiting head reason held before (Err (Content n)) holds so x = so

-- A reply that is cut is no failed read: all reads of the limit may have returned bytes.
pub broken_reads : {S : Type 0} (replies fails : S → RequestView → ReplyView → S → Type 0) (old : S) (waiting : List ℕ) (held : Option (List ℕ))
    (before : ℕ) (fault : ServeFault) (new : S) (holds : Option (List ℕ)) (turns : ℕ) (input left : Option (List ℕ))
    → LosesAtMost (turns * buffer_size) input left → IsBroken replies fails old waiting held before fault new holds
    → KeepsTurns turns (Err fault) input left
broken_reads replies fails old waiting held before Memory new holds turns input left so is = absurd is
broken_reads replies fails old waiting held before (Read n) new holds turns input left so is = absurd is
broken_reads replies fails old waiting held before (Write n) new holds turns input left so is = so
broken_reads replies fails old waiting held before (Content n) new holds turns input left so is = so

-- what the input's end is answered with isn't read in parts
pub unfinished_content : (size : ℕ) (waiting : List ℕ) (head : Option RequestHead) (reason : Refusal) (held : Option (List ℕ)) (before : ℕ)
    (fault : ServeFault) (holds : Option (List ℕ)) → IsUnfinished waiting head reason held before fault holds → HasContent size fault
unfinished_content size waiting head reason held before fault holds x = subst (λ (f : ServeFault). HasContent size f) (sym x.told) tt
