-- What calls of a disk leave of it, whatever bytes they read or wrote.
use Rattle.std.specs.Prelude.{◌≡◌, ℕ, Result, MatchResult}
use Rattle.sector_disk.specs.Disk.{History, HasFailed}

-- It has as many sectors, and if it has kept to its history now, it had before.
pub record MayWrite {S : Type 0} (sectors : S → ℕ) (honest : S → Type 0) (old new : S) : Type 0 where
  pub same_count : sectors new ≡ sectors old
  pub was_honest : honest new → honest old

-- Nothing was written to it either.
pub record OnlyReads {S : Type 0} (sectors : S → ℕ) (honest : S → Type 0) (history : S → History) (old new : S) : Type 0 where
  pub same_count : sectors new ≡ sectors old
  pub was_honest : honest new → honest old
  pub same_history : honest new → history new ≡ history old

-- An error says that a call of the disk failed, and success that none did.
abbrev pub TellsFailure : {T E : Type 0} → Result T E → (old new : ℕ) → Type 0
TellsFailure result old new = MatchResult result (λ _. new ≡ old) (λ _. HasFailed old new)
