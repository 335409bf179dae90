-- Bytes that are written, for writers whose contents are known.
use Rattle.std.specs.Prelude.{◌≡◌, ℕ, ◌<◌, List, ◌++◌, length, Option, Result, MatchResult}
use Rattle.std.specs.Io.KnownBytes.{Appends}

-- a proper prefix of the bytes was appended
abbrev pub AppendsPart : Option (List ℕ) → Option (List ℕ) → List ℕ → Type 0
AppendsPart old new bytes = (front : List ℕ) × (rest : List ℕ) × (bytes ≡ front ++ rest) × (0 < length rest) × Appends old new front

-- a prefix of the bytes was appended, and these are still to be written
abbrev pub SoFar : Option (List ℕ) → Option (List ℕ) → List ℕ → List ℕ → Type 0
SoFar old new bytes rest = (front : List ℕ) × (bytes ≡ front ++ rest) × Appends old new front

-- the bytes were appended, or after an error a proper prefix of them
abbrev pub WritesWhole : {X E : Type 0} → Option (List ℕ) → Option (List ℕ) → Result X E → List ℕ → Type 0
WritesWhole old new r bytes = MatchResult r (λ _. Appends old new bytes) (λ _. AppendsPart old new bytes)
