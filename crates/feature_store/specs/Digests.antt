-- The digest of a map: one number for all its features, by which maps that differ are told apart, but for one pair in 2^64.
use Rattle.std.specs.Prelude.{ℕ, ◌*◌, ◌%◌, ◌^◌, List, fold, bit_xor}
use Rattle.std.specs.List.{sum_by}
use Rattle.feature_model.specs.Data.{FeatureData}
use Rattle.feature_store.specs.declared.digests.TheConstants.{FNV_BASIS, FNV_PRIME}
use Rattle.feature_store.specs.Store.{FeatureMap, entry_text}

-- FNV-1a after one byte more
abbrev pub fnv_round : ℕ → ℕ → ℕ
fnv_round hash byte = (bit_xor hash byte * FNV_PRIME) % 2 ^ 64

-- FNV-1a with 64 bits
unfoldable pub text_hash : List ℕ → ℕ
text_hash bytes = fold fnv_round FNV_BASIS bytes

-- the hash of the text that gives a number its feature
abbrev pub entry_hash : ℕ × FeatureData → ℕ
entry_hash e = text_hash (entry_text e)

-- the sum of these over a map, in 64 bits
unfoldable pub map_digest : FeatureMap → ℕ
map_digest m = sum_by entry_hash m % 2 ^ 64
