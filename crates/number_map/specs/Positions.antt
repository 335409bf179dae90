-- The index of a number among others.
use Rattle.std.specs.Prelude.{◌≡◌, ℕ, zero, suc, ◌<◌, ◌≤◌, [], ◌∷◌, List, length, slice_index_or}

-- the index of the last of these numbers that is at most n, if they ascend, or 0 if none is
pub record IsLastUpTo (ns : List ℕ) (n i : ℕ) : Type 0 where
  pub within : 0 < i → i < length ns
  pub up_to : (d : ℕ) → 0 < i → slice_index_or ns i d ≤ n
  pub above : (k d : ℕ) → i < k → k < length ns → n < slice_index_or ns k d

module _ {T : Type 0} where
  -- the entry at this index has the number, and those before it have lower ones
  abbrev pub HasAt : List (ℕ × T) → ℕ → ℕ → Type 0
  HasAt [] n i = ⊥
  HasAt (e ∷ es) n zero = e.0 ≡ n
  HasAt (e ∷ es) n (suc i) = (e.0 < n) × HasAt es n i

  -- a new number belongs at this index: lower ones before it, a higher one there or none
  abbrev pub IsGapFor : List (ℕ × T) → ℕ → ℕ → Type 0
  IsGapFor [] n zero = Unit {0}
  IsGapFor [] n (suc i) = ⊥
  IsGapFor (e ∷ es) n zero = n < e.0
  IsGapFor (e ∷ es) n (suc i) = (e.0 < n) × IsGapFor es n i
