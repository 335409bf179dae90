-- A relation between states that each reply preserves is preserved by a connection.
use Rattle.std.proofs.Common.{◌≡◌, inl, inr, ℕ, List, [], ◌∷◌, Option, refl, sym, subst}
use Rattle.http_serve.specs.declared.connection.End.{End}
use Rattle.http_serve.specs.declared.connection.End.TheVariants.{Closed, Asked, Refused, Turns}
use Rattle.http_serve.specs.declared.connection.Served.{Served}
use Rattle.http_serve.specs.declared.connection.ServeFault.{ServeFault}
use Rattle.http_serve.specs.declared.connection.ServeFault.TheVariants.{Memory, Read, Write, Content}
use Rattle.http_requests.specs.Requests.{Request, RequestView, Ending, going, closed, asked, refused}
use Rattle.http_serve.specs.Reply.{ReplyView}
use Rattle.http_serve.specs.Served.{Answers, AnswersEnd, AnswersAll, AnswersNext, RepliesNext, MayFollow, Carries, Ends, Breaks}
use Rattle.http_serve.specs.Told.{IfTurns, IsServedTo, IsServedSoFar, IsServedInPart, IsServed, IsServedUpTo}

-- States of S answer by replies, states of T by tells. Along relates the two: for each reply, a T related to the S before it leads to
-- some T related to the S after it. Then each connection that S answers is one that T answers, with the same bytes read and written,
-- and the final states are related.
module _ {S T : Type 0} (replies : S → RequestView → ReplyView → S → Type 0) (tells : T → RequestView → ReplyView → T → Type 0)
    (Along : S → T → Type 0)
    (step : (old : S) (told : T) (request : RequestView) (reply : ReplyView) (new : S) → Along old told → replies old request reply new
    → (now : T) × tells told request reply now × Along new now) where
  -- some T that P holds for and that is related to this S
  abbrev pub Some_along : S → (T → Type 0) → Type 0
  Some_along new P = (now : T) × P now × Along new now

  stays : (old new : S) (told : T) → new ≡ old → Along old told → Along new told
  stays old new told same along = subst (λ (s : S). Along s told) (sym same) along

  answers_along : (old : S) (requests : List Request) (out : List ℕ) (new : S) (told : T) → Along old told → Answers replies old requests out new
      → Some_along new (λ now. Answers tells told requests out now)
  answers_along old [] out new told along is = (told, (is.0, refl), stays old new told is.1 along)
  answers_along old (request ∷ requests) out new told along is =
      let one = step old told _ is.0 is.1 along is.3 in
      let others = answers_along is.1 requests is.2 new one.0 one.2 is.5 in
      (others.0, (is.0, one.0, is.2, one.1, is.4, others.1), others.2)

  end_along : (old : S) (ending : Ending) (out : List ℕ) (new : S) (told : T) → Along old told → AnswersEnd replies old ending out new
      → Some_along new (λ now. AnswersEnd tells told ending out now)
  end_along old going out new told along is = (told, (is.0, refl), stays old new told is.1 along)
  end_along old closed out new told along is = (told, (is.0, refl), stays old new told is.1 along)
  end_along old (asked request) out new told along is =
      let one = step old told _ is.0 new along is.1 in
      (one.0, (is.0, one.1, is.2), one.2)
  end_along old (refused head refusal) out new told along is = (told, (is.0, refl), stays old new told is.1 along)

  all_along : (old : S) (requests : List Request) (ending : Ending) (out : List ℕ) (new : S) (told : T) → Along old told
      → AnswersAll replies old requests ending out new → Some_along new (λ now. AnswersAll tells told requests ending out now)
  all_along old requests ending out new told along is =
      let each = answers_along old requests is.front is.middle told along is.each in
      let end = end_along is.middle ending is.last new each.0 each.2 is.end in (
        end.0,
        record { middle = each.0; front = is.front; last = is.last; each = each.1; end = end.1; is = is.is },
        end.2,
      )

  carries_along : (old : S) (bytes : List ℕ) (held : Option (List ℕ)) (before : ℕ) (new : S) (rest : List ℕ) (holds : Option (List ℕ)) (after : ℕ)
      (told : T) → Along old told → Carries replies old bytes held before new rest holds after
      → Some_along new (λ now. Carries tells told bytes held before now rest holds after)
  carries_along old bytes held before new rest holds after told along is =
      let each = answers_along old is.requests is.out new told along is.answers in (
        each.0,
        record { requests = is.requests; out = is.out; begins = is.begins; answers = each.1; written = is.written; counted = is.counted },
        each.2,
      )

  ends_along : (old : S) (bytes : List ℕ) (follow : List ℕ → Type 0) (held : Option (List ℕ)) (before : ℕ) (ending : Ending)
      (new : S) (holds : Option (List ℕ)) (after : ℕ) (told : T) → Along old told → Ends replies old bytes follow held before ending new holds after
      → Some_along new (λ now. Ends tells told bytes follow held before ending now holds after)
  ends_along old bytes follow held before ending new holds after told along is =
      let all = all_along old is.requests ending is.out new told along is.answers in (
        all.0,
        record { requests = is.requests; out = is.out; reads = is.reads; answers = all.1; written = is.written; counted = is.counted },
        all.2,
      )

  answered_along : (old : S) (bytes out : List ℕ) (new : S) (told : T) → Along old told → AnswersNext replies old bytes out new
      → Some_along new (λ now. AnswersNext tells told bytes out now)
  answered_along old bytes out new told along is =
      let one = step old told _ is.reply new along is.replied in (
        one.0,
        record { request = is.request; rest = is.rest; reply = is.reply; is = is.is; replied = one.1; out_is = is.out_is },
        one.2,
      )

  next_along : (old : S) (bytes : List ℕ) (follow : List ℕ → Type 0) (out : List ℕ) (new : S) (told : T) → Along old told
      → RepliesNext replies follow old bytes out new → Some_along new (λ now. RepliesNext tells follow told bytes out now)
  next_along old bytes follow out new told along (inl is) =
      let one = answered_along old bytes out new told along is in (one.0, inl one.1, one.2)
  next_along old bytes follow out new told along (inr is) = (
    told,
    inr (record { head = is.head; refusal = is.refusal; some = is.some; is = is.is; same = refl; out_is = is.out_is }),
    stays old new told is.same along,
  )

  breaks_along : (IsNext : S → List ℕ → List ℕ → S → Type 0) (IsTold : T → List ℕ → List ℕ → T → Type 0)
      (next : (old : S) (bytes out : List ℕ) (new : S) (told : T) → Along old told → IsNext old bytes out new
      → Some_along new (λ now. IsTold told bytes out now))
      (old : S) (bytes : List ℕ) (held : Option (List ℕ)) (before : ℕ) (new : S) (holds : Option (List ℕ)) (after : ℕ) (told : T) → Along old told
      → Breaks replies IsNext old bytes held before new holds after → Some_along new (λ now. Breaks tells IsTold told bytes held before now holds after)
  breaks_along IsNext IsTold next old bytes held before new holds after told along is =
      let whole = carries_along old bytes held before is.middle is.rest is.between after told along is.carries in
      let last = next is.middle is.rest is.next new whole.0 whole.2 is.replied in (
        last.0,
        record {
          middle = whole.0;
          rest = is.rest;
          between = is.between;
          carries = whole.1;
          next = is.next;
          count = is.count;
          replied = last.1;
          cut = is.cut;
          written = is.written;
        },
        last.2,
      )

  to_along : (old : S) (left held : Option (List ℕ)) (served : Served) (new : S) (leaves holds : Option (List ℕ)) (told : T) → Along old told
      → IsServedTo replies old left held served new leaves holds → Some_along new (λ now. IsServedTo tells told left held served now leaves holds)
  to_along old left held served new leaves holds told along is =
      let ends = ends_along old is.bytes _ held 0 is.ending new holds served.requests told along is.ends in
      (ends.0, record { bytes = is.bytes; read = is.read; ending = is.ending; told = is.told; ends = ends.1 }, ends.2)

  so_far_along : (old : S) (left held : Option (List ℕ)) (requests : ℕ) (new : S) (leaves holds : Option (List ℕ)) (told : T) → Along old told
      → IsServedSoFar replies old left held requests new leaves holds → Some_along new (λ now. IsServedSoFar tells told left held requests now leaves holds)
  so_far_along old left held requests new leaves holds told along is =
      let carries = carries_along old is.bytes held 0 new is.rest holds requests told along is.carries in
      (carries.0, record { bytes = is.bytes; rest = is.rest; read = is.read; carries = carries.1; none = is.none }, carries.2)

  in_part_along : (IsNext : S → List ℕ → List ℕ → S → Type 0) (IsTold : T → List ℕ → List ℕ → T → Type 0)
      (next : (old : S) (bytes out : List ℕ) (new : S) (told : T) → Along old told → IsNext old bytes out new
      → Some_along new (λ now. IsTold told bytes out now))
      (old : S) (left held : Option (List ℕ)) (requests : ℕ) (new : S) (leaves holds : Option (List ℕ)) (told : T) → Along old told
      → IsServedInPart replies IsNext old left held requests new leaves holds
      → Some_along new (λ now. IsServedInPart tells IsTold told left held requests now leaves holds)
  in_part_along IsNext IsTold next old left held requests new leaves holds told along is =
      let breaks = breaks_along IsNext IsTold next old is.bytes held 0 new holds requests told along is.breaks in
      (breaks.0, record { bytes = is.bytes; read = is.read; breaks = breaks.1 }, breaks.2)

  by_end : (end : End) (new : S) (stopped ended : Type 0) (stopped' ended' : T → Type 0) → (stopped → Some_along new stopped') → (ended → Some_along new ended')
      → IfTurns end stopped ended → Some_along new (λ now. IfTurns end (stopped' now) (ended' now))
  by_end Turns new stopped ended stopped' ended' f g is = f is
  by_end Closed new stopped ended stopped' ended' f g is = g is
  by_end Asked new stopped ended stopped' ended' f g is = g is
  by_end Refused new stopped ended stopped' ended' f g is = g is

  -- a connection that was served
  pub served_along : (old : S) (left held : Option (List ℕ)) (served : Served) (new : S) (leaves holds : Option (List ℕ)) (told : T) → Along old told
      → IsServed replies old left held served new leaves holds → Some_along new (λ now. IsServed tells told left held served now leaves holds)
  served_along old left held served new leaves holds told along is = by_end served.end new _ _
      (λ now. IsServedSoFar tells told left held served.requests now leaves holds) (λ now. IsServedTo tells told left held served now leaves holds)
      (so_far_along old left held served.requests new leaves holds told along) (to_along old left held served new leaves holds told along) is

  -- and one whose last reply has a rest
  pub part_along : (old : S) (left held : Option (List ℕ)) (requests : ℕ) (new : S) (leaves holds : Option (List ℕ)) (told : T) → Along old told
      → IsServedInPart replies (AnswersNext replies) old left held requests new leaves holds
      → Some_along new (λ now. IsServedInPart tells (AnswersNext tells) told left held requests now leaves holds)
  part_along = in_part_along (AnswersNext replies) (AnswersNext tells) answered_along

-- The same, with replies whose content can't be read to its end.
module _ {S T : Type 0} (replies fails : S → RequestView → ReplyView → S → Type 0) (tells tells_cut : T → RequestView → ReplyView → T → Type 0)
    (Along : S → T → Type 0)
    (step : (old : S) (told : T) (request : RequestView) (reply : ReplyView) (new : S) → Along old told → replies old request reply new
    → (now : T) × tells told request reply now × Along new now)
    (step_cut : (old : S) (told : T) (request : RequestView) (reply : ReplyView) (new : S) → Along old told → fails old request reply new
    → (now : T) × tells_cut told request reply now × Along new now) where
  failed_along : (old : S) (bytes out : List ℕ) (new : S) (told : T) → Along old told → AnswersNext fails old bytes out new
      → Some_along replies tells Along step new (λ now. AnswersNext tells_cut told bytes out now)
  failed_along old bytes out new told along is =
      let one = step_cut old told _ is.reply new along is.replied in (
        one.0,
        record { request = is.request; rest = is.rest; reply = is.reply; is = is.is; replied = one.1; out_is = is.out_is },
        one.2,
      )

  -- a connection that a fault ended
  pub fault_along : (old : S) (left held : Option (List ℕ)) (fault : ServeFault) (new : S) (leaves holds : Option (List ℕ)) (told : T) → Along old told
      → IsServedUpTo replies fails old left held fault new leaves holds
      → Some_along replies tells Along step new (λ now. IsServedUpTo tells tells_cut told left held fault now leaves holds)
  fault_along old left held Memory new leaves holds told along is =
      (told, (refl, is.1, is.2), stays replies tells Along step old new told is.0 along)
  fault_along old left held (Read requests) new leaves holds told along is =
      so_far_along replies tells Along step old left held requests new leaves holds told along is
  fault_along old left held (Write requests) new leaves holds told along is =
      in_part_along replies tells Along step (RepliesNext replies (MayFollow leaves)) (RepliesNext tells (MayFollow leaves))
      (λ at bytes out then so goes is. next_along replies tells Along step at bytes (MayFollow leaves) out then so goes is) old left held requests new
      leaves holds told along is
  fault_along old left held (Content requests) new leaves holds told along is =
      in_part_along replies tells Along step (AnswersNext fails) (AnswersNext tells_cut) failed_along old left held requests new leaves holds told along is
