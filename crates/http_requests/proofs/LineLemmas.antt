-- Bytes without an empty line after a line have no head.
use Rattle.std.proofs.Common.{◌≡◌, ◌≢◌, ℕ, ◌+◌, ◌-◌, ◌<◌, ◌≤◌, List, [], ◌∷◌, ◌++◌, Bool, true, false, ◌==◌, ◌||◌, if◌then◌else◌, IsTrue, length, take, drop}
use Rattle.std.proofs.Common.{refl, sym, ap, ◌∙◌, subst, arith}
use Rattle.std.specs.List.{flat_map}
use Rattle.std.proofs.lemmas.List.{take-append-drop, take_all, take_rest}
use Rattle.std.proofs.lemmas.Bool.{eqb-true}
use Rattle.httparse.specs.Ascii.{line_feed, carriage_return, space, colon}
use Rattle.httparse.specs.Grammar.{LineEnd, crlf, lf, print_end, print_blank, print_version, Field, print_field, print_section, IsToken, is_token_byte}
use Rattle.httparse.specs.Grammar.{RequestHead, IsRequestHead, print_request}
use Rattle.http_requests.specs.declared.lines.Lines.{Lines}
use Rattle.http_requests.specs.declared.lines.Lines.TheVariants.{Blank, Inside, Ended, Empty}
use Rattle.http_requests.specs.Lines.{after_byte, after_bytes}
use Rattle.http_requests.specs.declared.refusals.TheConstants.{NO_HEAD}
use Rattle.http_requests.specs.Frame.{IsMissing}
use Rattle.http_requests.specs.Requests.{HasNoHead}
use Rattle.http_requests.proofs.HeadLemmas.{headless_missing}

after_bytes-append : (s : Lines) (a b : List ℕ) → after_bytes s (a ++ b) ≡ after_bytes (after_bytes s a) b
after_bytes-append s [] b = refl
after_bytes-append s (x ∷ a) b = after_bytes-append (after_byte s x) a b

pub after_empty : (bytes : List ℕ) → after_bytes Empty bytes ≡ Empty
after_empty [] = refl
after_empty (x ∷ bytes) = after_empty bytes

-- a line has begun
abbrev IsPast : Lines → Type 0
IsPast Blank = ⊥
IsPast Inside = Unit {0}
IsPast Ended = Unit {0}
IsPast Empty = Unit {0}

-- a line has ended, and carriage returns at most came since; or the empty line came
abbrev IsEnded : Lines → Type 0
IsEnded Blank = ⊥
IsEnded Inside = ⊥
IsEnded Ended = Unit {0}
IsEnded Empty = Unit {0}

ended_past : (s : Lines) → IsEnded s → IsPast s
ended_past Blank h = h
ended_past Inside h = tt
ended_past Ended h = h
ended_past Empty h = h

past_byte : (s : Lines) (b : ℕ) → IsPast s → IsPast (after_byte s b)
past_byte Blank b h = absurd h
past_byte Inside b h = elim (b == line_feed) as (λ t. IsPast (if t then Ended else Inside)) [ true ↦ tt | false ↦ tt ]
past_byte Ended b h = ended (b == line_feed) (b == carriage_return)
  where
    ended : (t u : Bool) → IsPast (if t then Empty else (if u then Ended else Inside))
    ended true u = tt
    ended false true = tt
    ended false false = tt
past_byte Empty b h = tt

past_bytes : (s : Lines) (bytes : List ℕ) → IsPast s → IsPast (after_bytes s bytes)
past_bytes s [] h = h
past_bytes s (x ∷ bytes) h = past_bytes (after_byte s x) bytes (past_byte s x h)

past_line_feed : (s : Lines) → IsPast s → IsEnded (after_byte s line_feed)
past_line_feed Blank h = absurd h
past_line_feed Inside h = tt
past_line_feed Ended h = tt
past_line_feed Empty h = tt

-- the end of a line
past_end : (s : Lines) (end : LineEnd) → IsPast s → IsEnded (after_bytes s (print_end end))
past_end s crlf h = past_line_feed (after_byte s carriage_return) (past_byte s carriage_return h)
past_end s lf h = past_line_feed s h

-- the end of an empty line
ended_end : (s : Lines) (end : LineEnd) → IsEnded s → after_bytes s (print_end end) ≡ Empty
ended_end Blank end h = absurd h
ended_end Inside end h = absurd h
ended_end Ended crlf h = refl
ended_end Ended lf h = refl
ended_end Empty end h = after_empty (print_end end)

-- bytes, and the end of their line
past_line : (s : Lines) (bytes : List ℕ) (end : LineEnd) → IsPast s → IsEnded (after_bytes s (bytes ++ print_end end))
past_line s bytes end h =
    subst IsEnded (sym (after_bytes-append s bytes (print_end end))) (past_end (after_bytes s bytes) end (past_bytes s bytes h))

fields_end : (s : Lines) (fields : List Field) → IsEnded s → IsEnded (after_bytes s (flat_map print_field fields))
fields_end s [] h = h
fields_end s (f ∷ fields) h =
    subst IsEnded (sym (after_bytes-append s (print_field f) (flat_map print_field fields)))
    (fields_end (after_bytes s (print_field f)) fields (past_line s (f.name ++ (colon ∷ f.raw)) f.end (ended_past s h)))

section_end : (s : Lines) (fields : List Field) (last : LineEnd) → IsEnded s → after_bytes s (print_section fields last) ≡ Empty
section_end s fields last h =
    after_bytes-append s (flat_map print_field fields) (print_end last)
    ∙ ended_end (after_bytes s (flat_map print_field fields)) last (fields_end s fields h)

blank_end : (end : LineEnd) → after_bytes Blank (print_end end) ≡ Blank
blank_end crlf = refl
blank_end lf = refl

blank_ends : (ends : List LineEnd) → after_bytes Blank (print_blank ends) ≡ Blank
blank_ends [] = refl
blank_ends (end ∷ ends) =
    after_bytes-append Blank (print_end end) (print_blank ends)
    ∙ ap (λ (s : Lines). after_bytes s (print_blank ends)) (blank_end end) ∙ blank_ends ends

-- no byte of a method ends a line
no_line_feed : IsTrue (is_token_byte line_feed) → IsPast Blank
unfolding is_token_byte
no_line_feed is = absurd (cc)

no_return : IsTrue (is_token_byte carriage_return) → IsPast Blank
unfolding is_token_byte
no_return is = absurd (cc)

token_inside : (b : ℕ) → IsTrue (is_token_byte b) → IsPast (after_byte Blank b)
token_inside b is = by (b == line_feed) (b == carriage_return) refl refl
  where
    by : (t u : Bool) → b == line_feed ≡ t → b == carriage_return ≡ u → IsPast (if t || u then Blank else Inside)
    by true u e f = no_line_feed (subst (λ (x : ℕ). IsTrue (is_token_byte x)) (eqb-true b line_feed e) is)
    by false true e f = no_return (subst (λ (x : ℕ). IsTrue (is_token_byte x)) (eqb-true b carriage_return f) is)
    by false false e f = tt

method_past : (method : List ℕ) → IsToken method → IsPast (after_bytes Blank method)
method_past [] is = let some = is.0 in absurd (omega arith)
method_past (b ∷ method) is = past_bytes (after_byte Blank b) method (token_inside b (is.1 0 0 (omega arith)))

-- a head ends with an empty line after a line
head_empty : (h : RequestHead) → IsRequestHead h → after_bytes Blank (print_request h) ≡ Empty
unfolding print_request
head_empty h is =
    let start = print_blank h.blank in
    let target : List ℕ = space ∷ h.target in
    let version : List ℕ = space ∷ print_version h.minor in
    let section = print_section h.fields h.last in
    let line = start ++ h.method ++ target ++ version in
    let begun : IsPast (after_bytes Blank (start ++ h.method)) =
    subst IsPast (sym (after_bytes-append Blank start h.method ∙ ap (λ (s : Lines). after_bytes s h.method) (blank_ends h.blank)))
    (method_past h.method is.method) in
    let past : IsPast (after_bytes Blank line) =
    subst IsPast (sym (after_bytes-append Blank (start ++ h.method ++ target) version))
    (past_bytes (after_bytes Blank (start ++ h.method ++ target)) version
    (subst IsPast (sym (after_bytes-append Blank (start ++ h.method) target)) (past_bytes (after_bytes Blank (start ++ h.method)) target begun))) in
    let ended : IsEnded (after_bytes Blank (line ++ print_end h.line_end)) =
    subst IsEnded (sym (after_bytes-append Blank line (print_end h.line_end))) (past_end (after_bytes Blank line) h.line_end past) in
    after_bytes-append Blank (line ++ print_end h.line_end) section
    ∙ section_end (after_bytes Blank (line ++ print_end h.line_end)) h.fields h.last ended

-- without an empty line after a line there is no head
lines_no_head : (bytes : List ℕ) → after_bytes Blank bytes ≢ Empty → HasNoHead bytes
lines_no_head bytes other head rest is =
    other (
    ap (λ (t : List ℕ). after_bytes Blank t) is.reads.1
    ∙ after_bytes-append Blank (print_request head) rest
    ∙ ap (λ (s : Lines). after_bytes s rest) (head_empty head is.reads.0)
    ∙ after_empty rest)

-- ---- what the search knows

module _ (bytes : List ℕ) (n : ℕ) (old new : Lines) (so : after_bytes Blank (take n bytes) ≡ old)
    (is : new ≡ after_bytes old (take (length bytes - n) (drop n bytes))) where
  -- all bytes are scanned
  lines_now : after_bytes Blank bytes ≡ new
  lines_now =
      ap (λ (t : List ℕ). after_bytes Blank t) (sym (take-append-drop n bytes))
      ∙ after_bytes-append Blank (take n bytes) (drop n bytes) ∙ ap (λ (s : Lines). after_bytes s (drop n bytes)) so
      ∙ ap (λ (t : List ℕ). after_bytes old t) (sym (take_rest bytes n)) ∙ sym is

  pub scanned_all : (length bytes ≤ length bytes) × (after_bytes Blank (take (length bytes) bytes) ≡ new)
  scanned_all = (omega arith, ap (λ (t : List ℕ). after_bytes Blank t) (take_all (length bytes) bytes (omega arith)) ∙ lines_now)

  -- bytes without an empty line are no head
  pub scanned_missing : new ≢ Empty → length bytes < 8192 → IsMissing bytes NO_HEAD (length bytes + 1)
  scanned_missing other few = headless_missing bytes (lines_no_head bytes (λ e. other (sym lines_now ∙ e))) few
