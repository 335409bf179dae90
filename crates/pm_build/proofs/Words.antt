-- The hash of words, one after the other.
use Rattle.std.proofs.Common.{◌≡◌, ℕ, zero, suc, ◌+◌, ◌*◌, ◌≤◌, List, ◌++◌, length, slice_range, refl, sym, ap, subst, ◌∙◌, arith}
use Rattle.std.specs.Int.{w64, from_le_bytes}
use Rattle.std.proofs.lemmas.List.{length-append}
use Rattle.pm_build.specs.declared.hashing.HashedWords.{HashedWords}
use Rattle.pm_build.specs.Hashing.{IsHashed, mixed, words_hash}
use Rattle.pm_build.proofs.Pieces.{part_front}

pub words_none : (bytes : List ℕ) → words_hash bytes 0 ≡ 0
unfolding words_hash
words_none bytes = refl

pub words_next : (bytes : List ℕ) (n : ℕ) → words_hash bytes (n + 1) ≡ mixed (words_hash bytes n) (from_le_bytes w64 (slice_range bytes (8 * n) (8 * n + 8)))
unfolding words_hash
words_next bytes n = let e : n + 1 ≡ suc n = omega arith in ap (λ (k : ℕ). words_hash bytes k) e

-- bytes that follow change nothing
pub words_front : (bytes more : List ℕ) (n : ℕ) → 8 * n ≤ length bytes → words_hash (bytes ++ more) n ≡ words_hash bytes n
unfolding words_hash
words_front bytes more zero le = refl
words_front bytes more (suc n) le =
    let before = words_front bytes more n (omega (arith, le)) in
    let word = part_front bytes more (8 * n) (8 * n + 8) (omega (arith, le)) in
    ap (λ (h : ℕ). mixed h (from_le_bytes w64 (slice_range (bytes ++ more) (8 * n) (8 * n + 8)))) before
    ∙ ap (λ (part : List ℕ). mixed (words_hash bytes n) (from_le_bytes w64 part)) word

-- no words of any bytes
none_hashed : (bytes : List ℕ) → IsHashed bytes 0 0
none_hashed bytes = record { inside = omega arith; hash_is = sym (words_none bytes) }

pub none_known : (bytes : List ℕ) (known : HashedWords) → known ≡ record { words = 0; hash = 0 } → IsHashed bytes known.words known.hash
none_known bytes known none = subst (λ (k : HashedWords). IsHashed bytes k.words k.hash) (sym none) (none_hashed bytes)

-- the same words of longer bytes
pub hashed_front : (bytes more : List ℕ) (words hash : ℕ) → IsHashed bytes words hash → IsHashed (bytes ++ more) words hash
hashed_front bytes more words hash is = record {
  inside = omega (arith, is.inside, length-append bytes more);
  hash_is = is.hash_is ∙ sym (words_front bytes more words is.inside);
}
