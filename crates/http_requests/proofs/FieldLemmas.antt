-- Values of content-length.
use Rattle.std.proofs.Common.{◌≡◌, ℕ, ◌+◌, ◌-◌, ◌<◌, ◌≤◌, List, [], ◌∷◌, ◌++◌, Bool, true, false, ◌&&◌, cond, length, take, drop, map, refl, sym}
use Rattle.std.proofs.Common.{ap, ◌∙◌, arith, get_or, Ok, Err, Result, nat_le}
use Rattle.std.specs.List.{filter, list_any}
use Rattle.std.specs.Str.Parse.{digits_value}
use Rattle.std.proofs.lemmas.List.{take_more, map-append, take-append-drop}
use Rattle.std.proofs.lemmas.List.Elements.{filter-append}
use Rattle.std.proofs.lemmas.Bool.Decides.{nat_tests}
use Rattle.httparse.specs.declared.spans.HeaderSpan.{HeaderSpan}
use Rattle.httparse.specs.Spans.{header_bytes, span_bytes}
use Rattle.std.specs.List.{position, position_or_len}
use Rattle.std.proofs.Common.{zero, suc, length-drop, Some, None, not, nat_lt}
use Rattle.std.specs.Prelude.{◌||◌, ◌==◌, codes}
use Rattle.std.proofs.Common.{subst}
use Rattle.std.proofs.lemmas.List.{take_all}
use Rattle.std.proofs.lemmas.List.Splits.{slice_split_first, slice_split_none}
use Rattle.std.proofs.lemmas.List.Sums.{fails_before_first, prefix_len-le-length}
use Rattle.httparse.specs.Ascii.{comma}
use Rattle.httparse.specs.Grammar.{trim_ows}
use Rattle.http_requests.specs.declared.fields.TheConstants.{MAX_BODY}
use Rattle.http_requests.specs.declared.refusals.Refusal.{Refusal}
use Rattle.http_requests.specs.declared.refusals.Refusal.TheVariants.{Host, Coding, Expect, Length, Body}
use Rattle.http_requests.specs.Fields.{NamedValue, values_of, limited, stated_length, is_numeral, is_word, members}
use Rattle.http_requests.specs.Fields.{framing, body_length, is_hosted, has_field}

-- more fields
values-append : (word : List ℕ) (xs ys : List NamedValue) → values_of word (xs ++ ys) ≡ values_of word xs ++ values_of word ys
values-append word xs ys =
    let named : NamedValue → Bool = λ field. is_word word field.0 in
    ap (λ (fields : List NamedValue). map (λ field. field.1) fields) (filter-append named xs ys)
    ∙ map-append (λ (field : NamedValue). field.1) (filter named xs) (filter named ys)

values_one : (word : List ℕ) (x : NamedValue) (b : Bool) → is_word word x.0 ≡ b → values_of word (x ∷ []) ≡ cond b (x.1 ∷ []) []
values_one word x true is = rw is refl
values_one word x false is = rw is refl

-- one more field
pub values_step : (word bytes : List ℕ) (fields : List HeaderSpan) (i : ℕ) (d : HeaderSpan) (b : Bool) → i < length fields
    → is_word word (span_bytes bytes (get_or fields i d).name) ≡ b
    → values_of word (map (header_bytes bytes) (take (i + 1) fields))
    ≡ values_of word (map (header_bytes bytes) (take i fields)) ++ cond b (span_bytes bytes (get_or fields i d).value ∷ []) []
values_step word bytes fields i d b at is =
    ap (λ (f : List HeaderSpan). values_of word (map (header_bytes bytes) f)) (take_more fields i d at)
    ∙ ap (values_of word) (map-append (header_bytes bytes) (take i fields) (get_or fields i d ∷ []))
    ∙ values-append word (map (header_bytes bytes) (take i fields)) (header_bytes bytes (get_or fields i d) ∷ [])
    ∙ ap (λ (t : List (List ℕ)). values_of word (map (header_bytes bytes) (take i fields)) ++ t)
    (values_one word (header_bytes bytes (get_or fields i d)) b is)

-- two values are more than one, whatever fields follow
pub two_values : (word bytes : List ℕ) (fields : List HeaderSpan) (i : ℕ) (v w : List ℕ)
    → values_of word (map (header_bytes bytes) (take i fields)) ≡ v ∷ w ∷ []
    → 1 < length (values_of word (map (header_bytes bytes) fields))
two_values word bytes fields i v w so =
    let parts = ap (λ (f : List HeaderSpan). values_of word (map (header_bytes bytes) f)) (sym (take-append-drop i fields))
    ∙ ap (values_of word) (map-append (header_bytes bytes) (take i fields) (drop i fields))
    ∙ values-append word (map (header_bytes bytes) (take i fields)) (map (header_bytes bytes) (drop i fields)) in
    let whole = ap length (parts ∙ ap (λ (t : List (List ℕ)). t ++ values_of word (map (header_bytes bytes) (drop i fields))) so) in
    omega arith

-- if a test doesn't refuse, the result is that of the other branch
taken : (b : Bool) (r : Result ℕ Refusal) (e : Refusal) (n : ℕ) → cond b r (Err e) ≡ Ok n → r ≡ Ok n
taken true r e n is = is
taken false r e n is = cc

spared : (b : Bool) (e : Refusal) (r : Result ℕ Refusal) (n : ℕ) → cond b (Err e) r ≡ Ok n → r ≡ Ok n
spared true e r n is = cc
spared false e r n is = is

limited_bound : (k n : ℕ) → limited k ≡ Ok n → n ≤ MAX_BODY
limited_bound k n is = by (nat_le k MAX_BODY) refl is
  where
    by : (b : Bool) → b ≡ nat_le k MAX_BODY → ◌≡◌ {A = Result ℕ Refusal} (cond b (Ok k) (Err Body)) (Ok n) → n ≤ MAX_BODY
    by true is e = let same : k ≡ n = cc in grind (arith, nat_tests)
    by false is e = cc

stated_bound : (values : List (List ℕ)) (n : ℕ) → stated_length values ≡ Ok n → n ≤ MAX_BODY
stated_bound [] n e = let same : 0 ≡ n = cc in omega arith
stated_bound (v ∷ []) n e = limited_bound (digits_value 10 v) n (taken (is_numeral v) (limited (digits_value 10 v)) Length n e)
stated_bound (v ∷ w ∷ more) n e = cc

-- no length above the limit is stated
pub framing_bound : (minor : ℕ) (fields : List NamedValue) (n : ℕ) → framing minor fields ≡ Ok n → n ≤ MAX_BODY
framing_bound minor fields n e =
    let length : Result ℕ Refusal = body_length fields in
    let behind_expect : Result ℕ Refusal = cond (has_field (codes "expect") fields) (Err Expect) length in
    let behind_coding : Result ℕ Refusal = cond (has_field (codes "transfer-encoding") fields) (Err Coding) behind_expect in
    stated_bound (values_of (codes "content-length") fields) n (
    spared (has_field (codes "expect") fields) Expect length n (
    spared (has_field (codes "transfer-encoding") fields) Coding behind_expect n (
    taken (is_hosted minor fields) behind_coding Host n e)))

-- ---- the members of a list

-- the member up to a comma, and those behind it
pub members_more : (list : List ℕ) (n : ℕ) → n ≡ position_or_len (λ byte. byte == comma) list → n < length list
    → members list ≡ trim_ows (take n list) ∷ members (drop (n + 1) list)
members_more list n at more =
    ap (map trim_ows) (slice_split_first (λ byte. byte == comma) list 0 (subst (λ (k : ℕ). k < length list) at more))
    ∙ ap (λ (k : ℕ). trim_ows (take k list) ∷ members (drop (k + 1) list)) (sym at)

-- one member is left
pub members_last : (list : List ℕ) (n : ℕ) → n ≡ position_or_len (λ byte. byte == comma) list → n ≡ length list
    → members list ≡ trim_ows (take n list) ∷ []
members_last list n at last =
    let one = slice_split_none (λ byte. byte == comma) list
    (λ k d below. fails_before_first (λ byte. byte == comma) list k d (subst (λ (m : ℕ). k < m) (sym last ∙ at) below)) in
    ap (map trim_ows) one ∙ ap (λ (member : List ℕ). trim_ows member ∷ []) (sym (take_all n list (omega arith)))

-- if no byte passes, the index is the length
pub no_index : (p : ℕ → Bool) (xs : List ℕ) → position p xs ≡ None → length xs ≡ position_or_len p xs
no_index p xs none = by (nat_lt (position_or_len p xs) (length xs)) refl none
  where
    by : (b : Bool) → b ≡ nat_lt (position_or_len p xs) (length xs) → cond b (Some (position_or_len p xs)) None ≡ None
        → length xs ≡ position_or_len p xs
    by true is e = cc
    by false is e = let most = prefix_len-le-length (λ (x : ℕ). not (p x)) xs in grind (arith, nat_tests)

-- a slice from an index to the end
pub rest_is : (k : ℕ) (xs : List ℕ) → take (length xs - k) (drop k xs) ≡ drop k xs
rest_is k xs = take_all (length xs - k) (drop k xs) (omega (arith, length-drop k xs))

-- a field of this kind is found
pub some_at : (is_one : NamedValue → Bool) (bytes : List ℕ) (fields : List HeaderSpan) (i : ℕ) (d : HeaderSpan) → i < length fields
    → is_one (header_bytes bytes (get_or fields i d)) ≡ true → list_any is_one (map (header_bytes bytes) fields) ≡ true
some_at is_one bytes [] i d at is = absurd (omega arith)
some_at is_one bytes (x ∷ fields) zero d at is = ap (λ (b : Bool). b || list_any is_one (map (header_bytes bytes) fields)) is
some_at is_one bytes (x ∷ fields) (suc i) d at is =
    let found = some_at is_one bytes fields i d (omega arith) is in
    ap (λ (b : Bool). is_one (header_bytes bytes x) || b) found ∙ or_true (is_one (header_bytes bytes x))
  where
    or_true : (b : Bool) → b || true ≡ true
    or_true true = refl
    or_true false = refl

-- both facts of a test of two parts
pub both_true : (a b : Bool) → a ≡ true → b ≡ true → a && b ≡ true
both_true a b x y = ap (λ (t : Bool). t && b) x ∙ y
