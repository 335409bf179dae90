-- What is answered of an input is one request, or bytes that begin with none, and may be answered.
use Rattle.std.proofs.Common.{◌≡◌, ℕ, ◌+◌, ◌++◌, List, [], Bool, true, length, take, ap, sym, subst, inl, inr, append-nil, arith}
use Rattle.std.proofs.lemmas.List.{take_all}
use Rattle.std.specs.declared.option.Option.{Option}
use Rattle.httparse.specs.Grammar.{RequestHead}
use Rattle.httparse.specs.declared.spans.HeaderSpan.{HeaderSpan}
use Rattle.http_requests.specs.declared.frames.Next.{Next}
use Rattle.http_requests.specs.declared.frames.Next.TheVariants.{Whole, Refused, More}
use Rattle.http_requests.specs.declared.refusals.Refusal.{Refusal}
use Rattle.http_requests.specs.Frame.{IsNext}
use Rattle.http_requests.specs.Requests.{IsRequest, IsRefused}
use Rattle.http_requests.proofs.HeadLemmas.{empty_missing, missing_now, refused_none}
use Rattle.http_requests.proofs.ReadingLemmas.{request_alone}
use Rattle.http_requests.specs.Inputs.{IsAsked, IsFound, MayAnswer, found_end}
use Rattle.http_requests.specs.declared.inputs.Asked.{Asked}
use Rattle.http_requests.specs.declared.inputs.TheConstants.{NOTHING_ASKED}
use Rattle.http_listen.specs.Asked.{HasNoRequest, IsDue, IsOneOrNone}
use Rattle.http_listen.specs.Talks.{Told, EndsWithin, HasEnded, IsAt}
use Rattle.http_listen.proofs.TalkLemmas.{ends_here}

none_refused : (input : List ℕ) (head : Option RequestHead) (refusal : Refusal) → IsRefused input head refusal → HasNoRequest (take (length input) input)
none_refused input head refusal is request rest whole =
    refused_none input head refusal request rest is
    (subst (λ (bytes : List ℕ). IsRequest bytes request rest) (take_all (length input) input (omega arith)) whole)

found_one : (input : List ℕ) (fields : List HeaderSpan) (found : Next) → IsNext input fields found → IsOneOrNone (take (found_end input found) input)
found_one input fields (Whole frame) is = inl (is.0, request_alone input is.0 frame.body.end is.1.body_within.1 is.1.is)
found_one input fields (Refused rejection) is =
    inr (none_refused input is.head rejection.refusal
    (subst (λ (bytes : List ℕ). IsRefused bytes is.head rejection.refusal) (append-nil input) (is.refused [])))
found_one input fields (More missing) is =
    let now = missing_now input missing.rejection missing.until is in
    inr (none_refused input now.1 missing.rejection.refusal now.3)

pub asked_one : (input : List ℕ) (fields : List HeaderSpan) (asked : Asked) → IsFound input fields asked → IsOneOrNone (take asked.end input)
asked_one input fields asked is =
    subst (λ (end : ℕ). IsOneOrNone (take end input)) (sym is.1) (found_one input fields asked.found is.0)

due_by : (input : List ℕ) (ended : Bool) (fields : List HeaderSpan) (found : Next) (told : Option Told) (count : ℕ) → IsNext input fields found
    → MayAnswer ended found → (ended ≡ true → HasEnded told) → IsAt count told input
    → IsDue (count + length (take (found_end input found) input)) told (take (found_end input found) input)
due_by input ended fields (Whole frame) told count is may knows at = inl (is.0, request_alone input is.0 frame.body.end is.1.body_within.1 is.1.is)
due_by input ended fields (Refused rejection) told count is may knows at =
    let all = take_all (length input) input (omega arith) in
    inr (inl (λ more request rest whole. refused_none (input ++ more) is.head rejection.refusal request rest (is.refused more)
    (subst (λ (bytes : List ℕ). IsRequest (bytes ++ more) request rest) all whole)))
due_by input ended fields (More missing) told count is may knows at =
    let all = take_all (length input) input (omega arith) in
    inr (inr (inr (subst (λ (bytes : List ℕ). EndsWithin (count + length bytes) told) (sym all) (ends_here count told input at (knows may)))))

-- What is answered may be, by what its stream told.
pub asked_due : (input : List ℕ) (ended : Bool) (fields : List HeaderSpan) (asked : Asked) (told : Option Told) (count : ℕ) → IsAsked input ended fields asked
    → (ended ≡ true → HasEnded told) → IsAt count told input → IsDue (count + length (take asked.end input)) told (take asked.end input)
asked_due input ended fields asked told count is knows at =
    subst (λ (end : ℕ). IsDue (count + length (take end input)) told (take end input)) (sym is.0.1)
    (due_by input ended fields asked.found told count is.0.0 is.1 knows at)

-- Nothing is asked in no bytes.
pub nothing_asked : (input : List ℕ) (fields : List HeaderSpan) → input ≡ [] → IsFound input fields NOTHING_ASKED
nothing_asked input fields empty = (empty_missing input (ap length empty), sym (ap length empty))
