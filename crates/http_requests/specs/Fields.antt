-- What the header fields say about the body and the connection.
use Rattle.std.specs.Prelude.{ℕ, List, [], ◌∷◌, ◌≡◌, ◌<◌, ◌==◌, ◌&&◌, Bool, cond, nat_eq, nat_lt, nat_le, length, map, filter, codes, Option, None, Some}
use Rattle.std.specs.Prelude.{Result, Ok, Err, ◌||◌}
use Rattle.std.specs.List.{list_all, list_any, slice_split}
use Rattle.std.specs.Char.{is_ascii_digit, to_ascii_lowercase}
use Rattle.std.specs.Cmp.Lexicographic.{pointwise}
use Rattle.std.specs.Str.Parse.{digits_value}
use Rattle.httparse.specs.Ascii.{comma}
use Rattle.httparse.specs.Grammar.{trim_ows}
use Rattle.httparse.specs.Spans.{IsWithin, span_bytes}
use Rattle.http_requests.specs.declared.fields.TheConstants.{MAX_BODY}
use Rattle.http_requests.specs.declared.fields.Stated.{Stated}
use Rattle.http_requests.specs.declared.fields.Stated.TheVariants.{Never, Once, Often}
use Rattle.http_requests.specs.declared.refusals.Refusal.{Refusal}
use Rattle.http_requests.specs.declared.refusals.Refusal.TheVariants.{Host, Coding, Expect, Length, Body}

-- a field's name, and its value without the white space around it
abbrev pub NamedValue : Type 0
NamedValue = List ℕ × List ℕ

-- the bytes equal the lower-case word, ignoring case
abbrev pub is_word : List ℕ → List ℕ → Bool
is_word word bytes = pointwise nat_eq (map to_ascii_lowercase bytes) word

-- the values of the fields of this name
abbrev pub values_of : List ℕ → List NamedValue → List (List ℕ)
values_of word fields = map (λ field. field.1) (filter (λ field. is_word word field.0) fields)

-- whether there are no values, exactly one, at this span, or more than one
abbrev pub IsStated : List ℕ → Stated → List (List ℕ) → Type 0
IsStated bytes Never values = values ≡ []
IsStated bytes (Once span) values = (values ≡ span_bytes bytes span ∷ []) × IsWithin (length bytes) span
IsStated bytes Often values = 1 < length values

-- ---- content-length

-- one or more digits
abbrev pub is_numeral : List ℕ → Bool
is_numeral value = nat_lt 0 (length value) && list_all is_ascii_digit value

-- the size if it is at most MAX_BODY, otherwise the refusal Body
abbrev pub limited : ℕ → Result ℕ Refusal
limited size = cond (nat_le size MAX_BODY) (Ok size) (Err Body)

-- the number that a content-length value states (RFC 9110, 8.6)
abbrev pub numeral_length : List ℕ → Result ℕ Refusal
numeral_length value = cond (is_numeral value) (limited (digits_value 10 value)) (Err Length)

-- the length from all values: 0 if there is none; more than one is refused
abbrev pub stated_length : List (List ℕ) → Result ℕ Refusal
stated_length [] = Ok 0
stated_length (value ∷ []) = numeral_length value
stated_length (value ∷ other ∷ more) = Err Length

-- the length of the body, or why the head is refused
abbrev pub body_length : List NamedValue → Result ℕ Refusal
body_length fields = stated_length (values_of (codes "content-length") fields)

-- ---- framing

-- some field has this name
abbrev pub has_field : List ℕ → List NamedValue → Bool
has_field word fields = nat_lt 0 (length (values_of word fields))

-- how many fields are named host
abbrev pub host_count : List NamedValue → ℕ
host_count fields = length (values_of (codes "host") fields)

-- exactly one host, which HTTP/1.0 doesn't ask for (RFC 9112, 3.2)
abbrev pub is_hosted : (minor : ℕ) → List NamedValue → Bool
is_hosted minor fields = minor == 0 || host_count fields == 1

-- The length of the body, or the first reason why the head is refused: its host, a transfer coding, none of which is supported
-- (RFC 9112, 6.1 and 6.3), an expectation, none of which is supported (RFC 9110, 10.1.1), or its length.
abbrev pub framing : (minor : ℕ) → List NamedValue → Result ℕ Refusal
framing minor fields =
    cond (is_hosted minor fields)
    (cond (has_field (codes "transfer-encoding") fields) (Err Coding)
    (cond (has_field (codes "expect") fields) (Err Expect)
    (body_length fields)))
    (Err Host)

-- ---- values

-- the value, if there is exactly one
abbrev pub only_value : List (List ℕ) → Option (List ℕ)
only_value [] = None
only_value (value ∷ []) = Some value
only_value (value ∷ other ∷ more) = None

-- the value of the only field of this name, without surrounding white space; none if there is no such field, or more than one
abbrev pub only_field : List ℕ → List NamedValue → Option (List ℕ)
only_field word fields = only_value (values_of word fields)

-- ---- lists

-- the members of a list, without the white space around them: they are separated by commas, and some may be empty (RFC 9110, 5.6.1)
abbrev pub members : List ℕ → List (List ℕ)
members list = map trim_ows (slice_split (λ byte. byte == comma) list)

-- the members of a list with this first one, behind whose comma, if there is one, this list follows
abbrev pub members_from : List ℕ → Option (List ℕ) → List (List ℕ)
members_from first None = first ∷ []
members_from first (Some rest) = first ∷ members rest

-- ---- connection

-- a connection value lists close: close is one of its options
abbrev pub lists_close : List ℕ → Bool
lists_close value = list_any (is_word (codes "close")) (members value)

-- the field is named connection and lists close
abbrev pub is_close : NamedValue → Bool
is_close field = is_word (codes "connection") field.0 && lists_close field.1

-- some field named connection lists close
abbrev pub says_close : List NamedValue → Bool
says_close fields = list_any is_close fields
