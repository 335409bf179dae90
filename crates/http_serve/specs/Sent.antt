-- What a writer received.
use Rattle.std.specs.Prelude.{ℕ, ◌<◌, List, length, take, Option, Result, MatchResult}
use Rattle.std.specs.Io.KnownBytes.{Appends}

-- all the bytes were written, or, on an error, a proper prefix
abbrev pub Sends : {A E : Type 0} → Result A E → Option (List ℕ) → Option (List ℕ) → List ℕ → Type 0
Sends result old new bytes =
    MatchResult result (λ _. Appends old new bytes) (λ _. (n : ℕ) × (n < length bytes) × Appends old new (take n bytes))
