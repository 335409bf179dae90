-- The head that bytes begin with is there whatever follows, and there is only one.
use Rattle.std.proofs.Common.{◌≡◌, ℕ, ◌+◌, ◌-◌, ◌<◌, ◌≤◌, List, [], ◌∷◌, ◌++◌, length, take, drop, map, Bool, refl, sym, ap, ◌∙◌, subst, arith}
use Rattle.std.proofs.Common.{length-append, length-drop, Ok, Err, Result, ◌==◌, ◌||◌, true, false}
use Rattle.std.proofs.lemmas.Bool.Decides.{nat_tests}
use Rattle.std.proofs.Common.{Option, None, Some}
use Rattle.http_requests.specs.Frame.{IsMissing}
use Rattle.std.proofs.lemmas.List.{append-nil, take-append-drop, drop-drop, length-take, length-take-le, length-map}
use Rattle.httparse.specs.Grammar.{RequestHead, IsRequestHead, ReadsRequest, print_request, HasNoRequest}
use Rattle.httparse.specs.Spans.{IsHeaderWithin, IsRequestAt, IsRequestWithin, header_bytes, name_and_value}
use Rattle.httparse.specs.declared.spans.HeaderSpan.{HeaderSpan}
use Rattle.httparse.specs.declared.spans.RequestSpans.{RequestSpans}
use Rattle.httparse.proofs.GrammarLemmas.{request_unique, request_prefix_free, ReadsRequest-append}
use Rattle.http_requests.specs.declared.refusals.TheConstants.{NO_HEAD}
use Rattle.http_requests.specs.declared.refusals.Refusal.{Refusal}
use Rattle.http_requests.specs.declared.refusals.Rejection.{Rejection}
use Rattle.http_requests.specs.declared.refusals.Refusal.TheVariants.{Short}
use Rattle.http_requests.specs.Fields.{NamedValue, framing, says_close}
use Rattle.http_requests.specs.Frame.{IsFrameOf}
use Rattle.http_requests.specs.declared.frames.TheConstants.{MAX_REQUEST}
use Rattle.http_requests.specs.Requests.{Request, IsHead, IsRequest, HasNoHead, HasFault, IsFault, IsRefused, fields_of, has_head_method}

pub IsHead-append : (bytes more : List ℕ) (head : RequestHead) (rest : List ℕ) → IsHead bytes head rest
    → IsHead (bytes ++ more) head (rest ++ more)
IsHead-append bytes more head rest is = record {
  reads = ReadsRequest-append bytes head rest more is.reads;
  size = is.size;
  fields = is.fields;
}

-- a head that ends after the limit
pub long_no_head : (bytes : List ℕ) (h : RequestHead) (r : List ℕ) → ReadsRequest bytes h r → 8192 < length (print_request h)
    → (more : List ℕ) → HasNoHead (bytes ++ more)
long_no_head bytes h r reads long more head rest is =
    let same = (request_prefix_free bytes more h head r rest reads is.reads).0 in
    let equal : length (print_request h) ≡ length (print_request head) = ap (λ (x : RequestHead). length (print_request x)) same in
    let short = is.size in
    absurd (omega arith)

-- no head so far, and the limit is reached
pub full_no_head : (bytes : List ℕ) → HasNoRequest bytes → 8192 ≤ length bytes → (more : List ℕ) → HasNoHead (bytes ++ more)
full_no_head bytes none full more head rest is =
    let text = print_request head in
    let short = is.size in
    let within : length text ≤ length bytes = omega arith in
    none head (drop (length text) bytes) (is.reads.0, front text bytes more rest within is.reads.1)
  where
    front : (a b more rest : List ℕ) → length a ≤ length b → b ++ more ≡ a ++ rest → b ≡ a ++ drop (length a) b
    front [] b more rest h e = refl
    front (x ∷ a) [] more rest h e = absurd (omega arith)
    front (x ∷ a) (y ∷ b) more rest h e =
        let heads : y ≡ x = cc in
        let tails : b ++ more ≡ a ++ rest = cc in
        let ih = front a b more rest (omega arith) tails in
        cc

print_request_some : (h : RequestHead) → IsRequestHead h → 0 < length (print_request h)
unfolding print_request
print_request_some h is =
    let some = is.method.0 in
    simp length-append (omega arith)

pub empty_no_head : (bytes : List ℕ) → length bytes ≡ 0 → HasNoHead bytes
empty_no_head bytes empty head rest is =
    let some = print_request_some head is.reads.0 in
    let all : length bytes ≡ length (print_request head ++ rest) = ap length is.reads.1 in
    absurd (omega (arith, length-append (print_request head) rest))

pub some_bytes : (n : ℕ) (b : Bool) → b ≡ (n == 0) → b ≡ false → 0 < n
some_bytes n b is other = grind (arith, nat_tests)

pub no_bytes : (n : ℕ) (b : Bool) → b ≡ (n == 0) → b ≡ true → n ≡ 0
no_bytes n b is so = grind (arith, nat_tests)

-- ---- what spans say

module _ (bytes : List ℕ) (fields : List HeaderSpan) (spans : RequestSpans) (h : RequestHead)
    (at : IsRequestAt bytes fields spans h) where
  spans_head : spans.len ≤ 8192 → length fields ≤ 32 → IsHead bytes h (drop spans.len bytes)
  spans_head size room = record {
    reads = at.reads;
    size = let e = at.len in omega arith;
    fields =
        let e = ap length at.fields in
        let a = length-map h.fields name_and_value in
        let b = length-map (take spans.headers fields) (header_bytes bytes) in
        let d = length-take spans.headers fields in
        omega arith;
  }

  spans_stated : framing spans.version (map (header_bytes bytes) (take spans.headers fields)) ≡ framing h.minor (fields_of h)
  spans_stated =
      ap (λ (minor : ℕ). framing minor (map (header_bytes bytes) (take spans.headers fields))) at.version ∙ ap (framing h.minor) at.fields

  -- the fields are refused, whatever follows
  pub stated_fault : spans.len ≤ 8192 → length fields ≤ 32 → (refusal : Refusal)
      → framing spans.version (map (header_bytes bytes) (take spans.headers fields)) ≡ Err refusal
      → (more : List ℕ) → HasFault (bytes ++ more) h refusal
  stated_fault size room refusal e more = record {
    rest = drop spans.len bytes ++ more;
    is = IsHead-append bytes more h (drop spans.len bytes) (spans_head size room);
    fault = subst (λ (s : Result ℕ Refusal). IsFault (length (drop spans.len bytes ++ more)) s refusal) (sym e ∙ spans_stated) refl;
  }

  -- the body isn't whole, nor with few bytes more
  pub short_fault : IsRequestWithin bytes fields spans → spans.len ≤ 8192 → length fields ≤ 32 → (n : ℕ)
      → framing spans.version (map (header_bytes bytes) (take spans.headers fields)) ≡ Ok n
      → (more : List ℕ) → length (bytes ++ more) < spans.len + n → HasFault (bytes ++ more) h Short
  short_fault within size room n e more short = record {
    rest = drop spans.len bytes ++ more;
    is = IsHead-append bytes more h (drop spans.len bytes) (spans_head size room);
    fault =
        let limit = within.section.len_fits in
        let few : length (drop spans.len bytes ++ more) < n =
        omega (arith, length-drop spans.len bytes, length-append (drop spans.len bytes) more, length-append bytes more) in
        subst (λ (s : Result ℕ Refusal). IsFault (length (drop spans.len bytes ++ more)) s Short) (sym e ∙ spans_stated) (few, refl);
  }

  spans_message : spans.len ≤ 8192 → length fields ≤ 32 → (n : ℕ)
      → framing spans.version (map (header_bytes bytes) (take spans.headers fields)) ≡ Ok n
      → spans.len + n ≤ length bytes
      → IsRequest bytes (record { head = h; body = take n (drop spans.len bytes) }) (drop (spans.len + n) bytes)
  spans_message size room n e fits = record {
    head =
        let seam : take n (drop spans.len bytes) ++ drop (spans.len + n) bytes ≡ drop spans.len bytes =
        ap (λ (t : List ℕ). take n (drop spans.len bytes) ++ t) (sym (drop-drop n spans.len bytes)) ∙ take-append-drop n (drop spans.len bytes) in
        subst (λ (t : List ℕ). IsHead bytes h t) (sym seam) (spans_head size room);
    body =
        let left = length-drop spans.len bytes in
        let taken = length-take-le n (drop spans.len bytes) (omega arith) in
        let whole : ℕ → Result ℕ Refusal = λ k. Ok k in
        sym spans_stated ∙ e ∙ ap whole (sym taken);
  }

  pub spans_frame : IsRequestWithin bytes fields spans → spans.len ≤ 8192 → length fields ≤ 32 → (n : ℕ)
      → framing spans.version (map (header_bytes bytes) (take spans.headers fields)) ≡ Ok n
      → spans.len + n ≤ length bytes → (close : Bool)
      → close ≡ spans.version == 0 || says_close (map (header_bytes bytes) (take spans.headers fields))
      → (request : Request) × IsFrameOf bytes fields (record {
        method = spans.method;
        target = spans.path;
        fields = spans.headers;
        body = record { start = spans.len; end = spans.len + n };
        close = close;
      }) request
  spans_frame within size room n e fits close closes =
      let limit = within.section.len_fits in
      let method = within.method in
      let path = within.path in (
        record { head = h; body = take n (drop spans.len bytes) },
        record {
          method_within = (method.0, omega arith);
          target_within = (path.0, omega arith);
          body_within = (omega arith, omega arith);
          fields_within = λ k d at. wider (within.section.headers_fit k d at) limit;
          few = within.section.count_fits;
          some = let e = at.len in let some = print_request_some h at.reads.0 in omega arith;
          is = spans_message size room n e (omega arith);
          method = at.method;
          target = at.path;
          fields = at.fields;
          body =
              let same : spans.len + n - spans.len ≡ n = omega arith in
              ap (λ (k : ℕ). take k (drop spans.len bytes)) same;
          close = closes ∙ ap (λ (k : ℕ). k == 0 || says_close (map (header_bytes bytes) (take spans.headers fields))) at.version
              ∙ ap (λ (named : List NamedValue). h.minor == 0 || says_close named) at.fields;
        },
      )
    where
      wider : {k n : ℕ} {s : HeaderSpan} → IsHeaderWithin k s → k ≤ n → IsHeaderWithin n s
      wider is few = ((is.0.0, omega (arith, is.0.1, few)), (is.1.0, omega (arith, is.1.1, few)))

-- ---- heads that aren't there

-- no bytes have no head
pub empty_missing : (bytes : List ℕ) → length bytes ≡ 0 → IsMissing bytes NO_HEAD 1
empty_missing bytes empty = record {
  few = omega arith;
  bound = omega arith;
  head = None;
  bare = refl;
  refused = λ more below. (refl, empty_no_head (bytes ++ more) (omega arith));
}

-- without a head so far, one more byte is needed
pub headless_missing : (bytes : List ℕ) → HasNoHead bytes → length bytes < 8192 → IsMissing bytes NO_HEAD (length bytes + 1)
headless_missing bytes none few = record {
  few = omega arith;
  bound = omega arith;
  head = None;
  bare = refl;
  refused = λ more below. (refl, same more (omega (arith, length-append bytes more)));
}
  where
    same : (more : List ℕ) → length more ≡ 0 → HasNoHead (bytes ++ more)
    same [] e = subst HasNoHead (sym (append-nil bytes)) none
    same (x ∷ more) e = absurd (omega arith)

-- bytes that are refused begin with no request
pub refused_none : (bytes : List ℕ) (head : Option RequestHead) (refusal : Refusal) (m : Request) (r : List ℕ)
    → IsRefused bytes head refusal → IsRequest bytes m r → ⊥
refused_none bytes None refusal m r none x = none.1 m.head (m.body ++ r) x.head
refused_none bytes (Some head) refusal m r fault x =
    let same = request_unique bytes head m.head fault.rest (m.body ++ r) fault.is.reads x.head.reads in
    let stated = ap (λ (h : RequestHead). framing h.minor (fields_of h)) same.0 ∙ x.body in
    let short = subst (λ (s : Result ℕ Refusal). IsFault (length fault.rest) s refusal) stated fault.fault in
    let all = ap length same.1 in
    absurd (omega (arith, short.0, length-append m.body r))

-- what holds if no request is complete
pub missing_now : (bytes : List ℕ) (rejection : Rejection) (until : ℕ) → IsMissing bytes rejection until
    → (length bytes < MAX_REQUEST) × (head : Option RequestHead) × (rejection.bare ≡ has_head_method head) × IsRefused bytes head rejection.refusal
missing_now bytes rejection until is =
    let few = is.few in
    let bound = is.bound in
    let size : length (bytes ++ []) < until = omega (arith, length-append bytes []) in (
      omega arith,
      is.head,
      is.bare,
      subst (λ (t : List ℕ). IsRefused t is.head rejection.refusal) (append-nil bytes) (is.refused [] size),
    )
