-- Bytes cut into pieces of one size, for the crates above too.
use Rattle.std.proofs.Common.{◌≡◌, ℕ, zero, suc, ◌<◌, ◌≤◌, ◌+◌, ◌-◌, ◌*◌, List, ◌++◌, length, take, drop, min, sym, ◌∙◌, ap, arith}
use Rattle.std.proofs.lemmas.List.{take_all, length-take, length-drop}
use Rattle.std.proofs.Math.Seq.{take-add}

module _ (size : ℕ) where
  abbrev cut : List ℕ → ℕ → List ℕ
  cut bytes index = take size (drop (size * index) bytes)

  pub cut_length : (bytes : List ℕ) (index : ℕ) → length (cut bytes index) ≡ min size (length bytes - size * index)
  cut_length bytes index = length-take size (drop (size * index) bytes) ∙ ap (min size) (length-drop (size * index) bytes)

  -- of two lists of one length the same piece begins what is there
  pub one_cut : (bytes others : List ℕ) (index : ℕ) (there : List ℕ) → length bytes ≡ length others
      → take (length (cut bytes index)) there ≡ cut bytes index → take (length (cut others index)) there ≡ cut others index
      → cut bytes index ≡ cut others index
  one_cut bytes others index there len is too =
      let same : length (cut bytes index) ≡ length (cut others index) =
      cut_length bytes index ∙ ap (λ (n : ℕ). min size (n - size * index)) len ∙ sym (cut_length others index) in
      sym is ∙ ap (λ (n : ℕ). take n there) same ∙ too

  same_front : (pieces : ℕ) (bytes others : List ℕ) → ((index : ℕ) → index < pieces → cut bytes index ≡ cut others index)
      → take (size * pieces) bytes ≡ take (size * pieces) others
  same_front zero bytes others same = ap (λ (n : ℕ). take n bytes) none ∙ sym (ap (λ (n : ℕ). take n others) none)
    where
      none : size * 0 ≡ 0
      none = omega arith
  same_front (suc pieces) bytes others same =
      let next : size * suc pieces ≡ size * pieces + size = omega arith in
      ap (λ (n : ℕ). take n bytes) next ∙ take-add (size * pieces) size bytes
      ∙ ap (λ (front : List ℕ). front ++ cut bytes pieces) (same_front pieces bytes others (λ index lt. same index (omega (arith, lt))))
      ∙ ap (λ (last : List ℕ). take (size * pieces) others ++ last) (same pieces (omega arith))
      ∙ sym (ap (λ (n : ℕ). take n others) next ∙ take-add (size * pieces) size others)

  -- bytes of one length are one where their pieces are
  pub same_bytes : (pieces : ℕ) (bytes others : List ℕ) → length bytes ≡ length others → length bytes ≤ size * pieces
      → ((index : ℕ) → index < pieces → cut bytes index ≡ cut others index) → bytes ≡ others
  same_bytes pieces bytes others len whole same =
      sym (take_all (size * pieces) bytes (omega (arith, whole))) ∙ same_front pieces bytes others same
      ∙ take_all (size * pieces) others (omega (arith, len, whole))
