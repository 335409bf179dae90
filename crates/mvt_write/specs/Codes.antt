-- The code of a text: a number that mostly differs where texts differ. What is written doesn't depend on it.
use Rattle.std.specs.Prelude.{ℕ, ◌+◌, ◌-◌, ◌*◌, ◌/◌, ◌%◌, ◌^◌, List, ◌==◌, length, take, drop, slice_index, nat_lt, if◌then◌else◌}
use Rattle.std.specs.Int.{w32, w64, from_le_bytes}
use Rattle.mvt_write.specs.declared.codes.TheConstants.{FACTOR}

-- one number of two numbers and a length
unfoldable pub mixed : ℕ → ℕ → ℕ → ℕ
mixed first last len = ((first * FACTOR % 2 ^ 64 + last) % 2 ^ 64 + len) % 2 ^ 64

-- the first and the middle byte as one number, and the last byte
unfoldable pub short_ends : List ℕ → ℕ × ℕ
short_ends bytes =
    if length bytes == 0 then (0, 0) else (slice_index bytes 0 + 256 * slice_index bytes (length bytes / 2), slice_index bytes (length bytes - 1))

-- the first and the last bytes as numbers, least significant byte first: eight of each, or four of a shorter text
unfoldable pub ends : List ℕ → ℕ × ℕ
ends bytes =
    if nat_lt (length bytes) 4 then short_ends bytes
    else if nat_lt (length bytes) 8 then (from_le_bytes w32 (take 4 bytes), from_le_bytes w32 (drop (length bytes - 4) bytes))
    else (from_le_bytes w64 (take 8 bytes), from_le_bytes w64 (drop (length bytes - 8) bytes))

unfoldable pub text_code : List ℕ → ℕ
text_code bytes = mixed (ends bytes).0 (ends bytes).1 (length bytes)
