-- Entries in blocks.
use Rattle.std.specs.Prelude.{◌≢◌, ℕ, ◌+◌, ◌<◌, nat_le, [], ◌∷◌, List, length, take, drop, map, All, flat_map, slice_index_or, Option, None}
use Rattle.std.specs.Ordering.{nat_cmp}
use Rattle.std.specs.Map.{keys_of}
use Rattle.std.specs.List.{AllByRecursion, find, last_or}
use Rattle.std.specs.List.Sorted.{IsStrictlySortedBy}

module _ {T : Type 0} where
  -- the entries of all blocks
  abbrev pub joined : List (List (ℕ × T)) → List (ℕ × T)
  joined bs = flat_map (λ es. es) bs

  -- the numbers ascend
  abbrev pub Ascends : List (ℕ × T) → Type 0
  Ascends es = IsStrictlySortedBy nat_cmp (keys_of es)

  -- the numbers are below this one
  abbrev pub AreBelow : ℕ → List (ℕ × T) → Type 0
  AreBelow n es = AllByRecursion (λ e. e.0 < n) es

  -- the numbers are above this one
  abbrev pub AreAbove : ℕ → List (ℕ × T) → Type 0
  AreAbove n es = AllByRecursion (λ e. n < e.0) es

  -- the first number, or 0 if there are no entries
  abbrev pub first_number : List (ℕ × T) → ℕ
  first_number [] = 0
  first_number (e ∷ es) = e.0

  -- the first number of each block
  abbrev pub firsts_of : List (List (ℕ × T)) → List ℕ
  firsts_of bs = map first_number bs

  -- the first entry with this number or a greater one
  abbrev pub first_from : ℕ → List (ℕ × T) → Option (ℕ × T)
  first_from n es = find (λ e. nat_le n e.0) es

  -- the last number, which is the greatest one if the numbers ascend, or None if there are no entries
  abbrev pub last_number : List (ℕ × T) → Option ℕ
  last_number es = last_or None (keys_of es)

  -- each block has entries
  abbrev pub AreFilled : List (List (ℕ × T)) → Type 0
  AreFilled bs = All (λ es. 0 < length es) bs

  -- each block but this one has entries
  abbrev pub AreFilledBut : ℕ → List (List (ℕ × T)) → Type 0
  AreFilledBut i bs = (k : ℕ) (d : List (ℕ × T)) → k < length bs → k ≢ i → 0 < length (slice_index_or bs k d)

  -- the numbers ascend from block to block, and each block has entries
  pub record AreInOrder (bs : List (List (ℕ × T))) : Type 0 where
    pub ascending : Ascends (joined bs)
    pub filled : AreFilled bs

  -- the blocks before this one have lower numbers, and those after it higher ones
  pub record IsHome (bs : List (List (ℕ × T))) (n i : ℕ) : Type 0 where
    pub below : AreBelow n (joined (take i bs))
    pub above : AreAbove n (joined (drop (i + 1) bs))
