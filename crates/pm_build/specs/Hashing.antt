-- The hash by which equal contents are found.
use Rattle.std.specs.Prelude.{◌≡◌, ◌≤◌, ℕ, zero, suc, ◌+◌, ◌*◌, ◌/◌, ◌%◌, ◌^◌, List, [], ◌∷◌, length, drop, slice_range}
use Rattle.std.specs.Int.{w64, from_le_bytes}
use Rattle.pm_build.specs.declared.hashing.TheConstants.{FACTOR}

-- the hash with one number more
unfoldable pub mixed : ℕ → ℕ → ℕ
mixed hash number = (hash * FACTOR % 2 ^ 64 + number) % 2 ^ 64

-- the hash of the first words of eight bytes, least significant byte first
unfoldable pub words_hash : List ℕ → ℕ → ℕ
words_hash bytes zero = 0
words_hash bytes (suc words) = mixed (words_hash bytes words) (from_le_bytes w64 (slice_range bytes (8 * words) (8 * words + 8)))

-- the hash with these bytes more
abbrev pub with_bytes : ℕ → List ℕ → ℕ
with_bytes hash [] = hash
with_bytes hash (byte ∷ bytes) = with_bytes (mixed hash byte) bytes

-- the hash of these bytes: the whole words, the bytes after them, and their number
unfoldable pub content_hash : List ℕ → ℕ
content_hash bytes = mixed (with_bytes (words_hash bytes (length bytes / 8)) (drop (8 * (length bytes / 8)) bytes)) (length bytes)

-- so many first words of these bytes have this hash
pub record IsHashed (bytes : List ℕ) (words hash : ℕ) : Type 0 where
  pub inside : 8 * words ≤ length bytes
  pub hash_is : hash ≡ words_hash bytes words
