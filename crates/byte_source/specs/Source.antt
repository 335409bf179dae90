-- Sources of bytes.
use Rattle.std.specs.Prelude.{◌≡◌, ℕ, List}

-- The source is as it was: it has as many bytes, none that it didn't have, and what it reads from is unchanged. Reads may have failed.
pub record Keeps {S : Type 0} (count : S → ℕ) (holds : S → List ℕ → Type 0) (unchanged : S → S → Type 0) (old new : S) : Type 0 where
  pub same_count : count new ≡ count old
  pub no_others : (bytes : List ℕ) → holds new bytes → holds old bytes
  pub same_behind : unchanged old new
