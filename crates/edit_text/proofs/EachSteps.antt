-- `count` of a kind, one after the other.
use Rattle.std.proofs.Common.{◌≡◌, ℕ, zero, suc, ◌+◌, ◌-◌, ◌<◌, ◌≤◌, List, [], ◌∷◌, length, refl, ap, arith}
use Rattle.edit_text.specs.Trusted.{Front, each_in}

module _ {A : Type 0} (part : Front A) where
  pub each_first : (count : ℕ) (bytes : List ℕ) → 0 < count
      → (each_in part count bytes).0 ≡ (part bytes).0 ∷ (each_in part (count - 1) (part bytes).1).0
  unfolding each_in
  each_first zero bytes l = absurd (omega arith)
  each_first (suc more) bytes l =
      let less : suc more - 1 ≡ more = omega arith in
      rw less refl

  -- what is read first, and the others in the bytes after it
  pub each_next : (count : ℕ) (bytes : List ℕ) (x : A) (rest : List ℕ) → 0 < count → x ≡ (part bytes).0 → rest ≡ (part bytes).1
      → (each_in part count bytes).0 ≡ x ∷ (each_in part (count - 1) rest).0
  each_next count bytes x rest l first behind = rw (first, behind) (each_first count bytes l)

  pub each_none : (count : ℕ) (bytes : List ℕ) → count ≡ 0 → (each_in part count bytes).0 ≡ []
  unfolding each_in
  each_none zero bytes e = refl
  each_none (suc more) bytes e = absurd (omega (arith, e))

  pub each_len : (count : ℕ) (bytes : List ℕ) → count ≡ length (each_in part count bytes).0
  unfolding each_in
  each_len zero bytes = refl
  each_len (suc more) bytes = ap suc (each_len more (part bytes).1)

  -- the bytes after one more
  pub behind_next : (count i : ℕ) (bytes whole : List ℕ) → i < count → (each_in part (count - i) bytes).1 ≡ whole
      → (each_in part (count - (i + 1)) (part bytes).1).1 ≡ whole
  unfolding each_in
  behind_next count i bytes whole l so_far =
      let more : count - i ≡ suc (count - (i + 1)) = omega arith in
      rw more at so_far

  -- the bytes after all
  pub behind_all : (count i : ℕ) (bytes whole : List ℕ) → count ≤ i → (each_in part (count - i) bytes).1 ≡ whole → bytes ≡ whole
  unfolding each_in
  behind_all count i bytes whole l so_far =
      let none : count - i ≡ 0 = omega arith in
      rw none at so_far
