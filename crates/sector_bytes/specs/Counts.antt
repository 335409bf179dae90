-- A disk's count of faults over several calls.
use Rattle.std.specs.Prelude.{◌⊎◌, ◌≤◌, ◌+◌, ◌-◌, ◌^◌, ℕ}

-- the count has reached n, or is saturated at the maximum of u64
abbrev pub HasReached : ℕ → ℕ → Type 0
HasReached n count = (n ≤ count) ⊎ (2 ^ 64 - 1 ≤ count)

-- it has risen
abbrev pub HasRisen : ℕ → ℕ → Type 0
HasRisen old new = HasReached (old + 1) new

-- it is unchanged or has risen: it has still reached each number that it had reached
abbrev pub NeverFalls : ℕ → ℕ → Type 0
NeverFalls old new = (n : ℕ) → HasReached n old → HasReached n new
