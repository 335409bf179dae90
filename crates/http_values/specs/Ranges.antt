-- What the value of a field range asks for (RFC 9110, 14.1.2 and 14.2), in the one form that is served.
use Rattle.std.specs.Prelude.{◌≡◌, ◌≤◌, ℕ, ◌==◌, ◌&&◌, Bool, true, nat_lt, nat_le, List, ◌++◌, length, codes}
use Rattle.std.specs.List.{list_all}
use Rattle.std.specs.Char.{is_ascii_digit}
use Rattle.std.specs.Str.Parse.{digits_value}
use Rattle.http_values.specs.declared.positions.TheConstants.{MAX_POSITION_DIGITS}

-- 1 to `MAX_POSITION_DIGITS` digits
abbrev pub is_numeral : List ℕ → Bool
is_numeral text = nat_lt 0 (length text) && (nat_le (length text) MAX_POSITION_DIGITS && list_all is_ascii_digit text)

-- the text is this position of a byte; leading zeros count as digits
abbrev pub IsPosition : List ℕ → ℕ → Type 0
IsPosition text position = (is_numeral text ≡ true) × (position ≡ digits_value 10 text)

-- these texts are the first position and the last one, which isn't before the first
abbrev pub AreAround : (before behind : List ℕ) → (first last : ℕ) → Type 0
AreAround before behind first last = IsPosition before first × IsPosition behind last × (first ≤ last)

-- the text is the first position, a dash, and the last one
abbrev pub AreEnds : List ℕ → (first last : ℕ) → Type 0
AreEnds text first last =
    (before : List ℕ) × (behind : List ℕ) × (text ≡ before ++ (codes "-" ++ behind)) × AreAround before behind first last

-- The value asks for the bytes from first to last: it is `bytes=`, byte for byte, and these two.
abbrev pub IsRange : List ℕ → (first last : ℕ) → Type 0
IsRange value first last = (text : List ℕ) × (value ≡ codes "bytes=" ++ text) × AreEnds text first last

-- b'-'
abbrev pub is_dash : ℕ → Bool
is_dash byte = byte == 45
