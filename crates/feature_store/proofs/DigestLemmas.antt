-- The digest of a map, once a number is set or taken away; and published test vectors of FNV-1a.
use Rattle.std.proofs.Common.{◌≡◌, ℕ, ◌+◌, ◌-◌, ◌*◌, ◌%◌, ◌^◌, ◌<◌, List, [], ◌∷◌, fold, Some, None, refl, sym, ap, ◌∙◌, arith}
use Rattle.std.specs.Prelude.{bit_xor}
use Rattle.std.specs.List.{sum_by}
use Rattle.std.proofs.lemmas.Nat.{mod_below}
use Rattle.number_map.specs.Blocks.{Ascends}
use Rattle.feature_model.specs.Data.{FeatureData}
use Rattle.feature_store.specs.declared.digests.TheConstants.{FNV_BASIS, FNV_PRIME}
use Rattle.feature_store.specs.Digests.{fnv_round, text_hash, entry_hash, map_digest}
use Rattle.feature_store.specs.Inside.{Stored, stored_data}
use Rattle.feature_store.specs.Store.{FeatureMap, feature_at, with_feature, without_feature}
use Rattle.feature_store.proofs.Totals.{total_without, total_with, removed_none}

-- ---- the hash: what is published of "", "a" and "foobar"

of_nothing : text_hash [] ≡ 0xcbf29ce484222325
unfolding text_hash
of_nothing = refl

of_a : text_hash (97 ∷ []) ≡ 0xaf63dc4c8601ec8c
unfolding text_hash
of_a = refl

of_foobar : text_hash (102 ∷ 111 ∷ 111 ∷ 98 ∷ 97 ∷ 114 ∷ []) ≡ 0x85944171f73967e8
unfolding text_hash
of_foobar = refl

rounds_below : (hash : ℕ) (bytes : List ℕ) → hash < 2 ^ 64 → fold fnv_round hash bytes < 2 ^ 64
rounds_below hash [] low = low
rounds_below hash (byte ∷ bytes) low = rounds_below (fnv_round hash byte) bytes (mod_below (bit_xor hash byte * FNV_PRIME) (2 ^ 64) (omega arith))

hash_below : (bytes : List ℕ) → text_hash bytes < 2 ^ 64
unfolding text_hash
hash_below bytes = rounds_below FNV_BASIS bytes (omega arith)

-- ---- sums of 64 bits

less_mod : (s h r : ℕ) → s ≡ h + r → h < 2 ^ 64 → (s % 2 ^ 64 + (2 ^ 64 - h)) % 2 ^ 64 ≡ r % 2 ^ 64
less_mod s h r is low = omega (arith, is, low)

more_mod : (s h r : ℕ) → s ≡ h + r → (r % 2 ^ 64 + h) % 2 ^ 64 ≡ s % 2 ^ 64
more_mod s h r is = omega (arith, is)

-- ---- the digest

pub digest_none : map_digest [] ≡ 0
unfolding map_digest
digest_none = refl

-- a number's feature is taken away
pub digest_taken : (m : FeatureMap) (id : ℕ) (f : FeatureData) → feature_at m id ≡ Some f
    → (map_digest m + (2 ^ 64 - entry_hash (id, f))) % 2 ^ 64 ≡ map_digest (without_feature m id)
unfolding map_digest feature_at without_feature
digest_taken m id f found =
    less_mod (sum_by entry_hash m) (entry_hash (id, f)) (sum_by entry_hash (without_feature m id)) (total_without entry_hash m id f found) (hash_below _)

-- a number is given a feature
pub digest_set : (m : FeatureMap) (id : ℕ) (f : FeatureData) → Ascends m
    → map_digest (with_feature m id f) ≡ (map_digest (without_feature m id) + entry_hash (id, f)) % 2 ^ 64
unfolding map_digest with_feature without_feature
digest_set m id f up =
    sym (more_mod (sum_by entry_hash (with_feature m id f)) (entry_hash (id, f)) (sum_by entry_hash (without_feature m id)) (total_with entry_hash m id f up))

-- a number has no feature to be taken away
pub digest_left : (m : FeatureMap) (id : ℕ) → feature_at m id ≡ None → map_digest m ≡ map_digest (without_feature m id)
unfolding feature_at without_feature
digest_left m id none = ap map_digest (sym (removed_none m id none))

-- the same of a feature as it is stored, whose text has this hash
pub digest_without : (m : FeatureMap) (id : ℕ) (s : Stored) (digest hash : ℕ) → digest ≡ map_digest m → s.0 ≡ id → Some (stored_data s) ≡ feature_at m id
    → hash ≡ entry_hash s → (digest + (2 ^ 64 - hash)) % 2 ^ 64 ≡ map_digest (without_feature m id)
digest_without m id s digest hash is own found hashed =
    ap (λ d. (d + (2 ^ 64 - hash)) % 2 ^ 64) is
    ∙ ap (λ h. (map_digest m + (2 ^ 64 - h)) % 2 ^ 64) (hashed ∙ ap (λ n. entry_hash (n, s.1)) own)
    ∙ digest_taken m id s.1 (sym found)

pub digest_with : (m : FeatureMap) (id : ℕ) (f : FeatureData) (digest hash : ℕ) → digest ≡ map_digest (without_feature m id) → hash ≡ entry_hash (id, f)
    → Ascends m → (digest + hash) % 2 ^ 64 ≡ map_digest (with_feature m id f)
digest_with m id f digest hash is hashed up =
    ap (λ d. (d + hash) % 2 ^ 64) is ∙ ap (λ h. (map_digest (without_feature m id) + h) % 2 ^ 64) hashed ∙ sym (digest_set m id f up)
