-- Numbers in a path.
use Rattle.std.specs.Prelude.{ℕ, ◌==◌, ◌&&◌, ◌||◌, Bool, not, nat_lt, List, length, slice_index, Option, Some, None, if◌then◌else◌}
use Rattle.std.specs.List.{list_all}
use Rattle.std.specs.Char.{is_ascii_digit}
use Rattle.std.specs.Str.Parse.{digits_value}
use Rattle.feature_model.specs.declared.limits.TheConstants.{NUMBER_END}

-- the first digit is a 0 (48), and another digit follows
abbrev pub has_leading_zero : List ℕ → Bool
has_leading_zero text = nat_lt 1 (length text) && (slice_index text 0 == 48)

-- one byte or more, and no leading zero
abbrev pub begins_plain : List ℕ → Bool
begins_plain text = not ((length text == 0) || has_leading_zero text)

-- one digit or more, without a leading zero
abbrev pub is_plain_number : List ℕ → Bool
is_plain_number text = begins_plain text && list_all is_ascii_digit text

-- the number of a feature that a text writes in decimal
abbrev pub number_of : List ℕ → Option ℕ
number_of text = if is_plain_number text && nat_lt (digits_value 10 text) NUMBER_END then Some (digits_value 10 text) else None
