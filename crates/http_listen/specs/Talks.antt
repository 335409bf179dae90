-- What a stream told, and what follows for its connection.
use Rattle.std.specs.Prelude.{◌≡◌, ◌≤◌, ◌+◌, ℕ, List, ◌++◌, length, Option, None, Some, ⊤}

-- The bytes that a stream's reads gave, and those that its writes took, each from the first on; and after how many bytes a read found the end of what
-- it gives, if one did.
pub record Told : Type 0 where
  pub given : List ℕ
  pub taken : List ℕ
  pub end : Option ℕ

-- an end that was found stays where it is
abbrev pub KeepsEnd : Told → Told → Type 0
KeepsEnd old new = (at : ℕ) → old.end ≡ Some at → new.end ≡ Some at

-- A stream that tells gave these bytes more, and took these. Whether it tells never changes.
abbrev pub Grows : Option Told → (given taken : List ℕ) → Option Told → Type 0
Grows None given taken None = ⊤
Grows None given taken (Some new) = ⊥
Grows (Some old) given taken None = ⊥
Grows (Some old) given taken (Some new) = (new.given ≡ old.given ++ given) × (new.taken ≡ old.taken ++ taken) × KeepsEnd old new

-- Bytes wait for a stream that tells. It gave some more. What it took and what waits for it, together, grew by these at the end.
abbrev pub Moves : Option Told → (waiting given more : List ℕ) → Option Told → (waits : List ℕ) → Type 0
Moves None waiting given more None waits = ⊤
Moves None waiting given more (Some new) waits = ⊥
Moves (Some old) waiting given more None waits = ⊥
Moves (Some old) waiting given more (Some new) waits =
    (new.given ≡ old.given ++ given) × (new.taken ++ waits ≡ old.taken ++ (waiting ++ more)) × KeepsEnd old new

-- how many bytes it gave
abbrev pub given_by : Option Told → ℕ
given_by None = 0
given_by (Some told) = length told.given

-- a stream that tells has told its end, which is after so many bytes or before
abbrev pub EndsWithin : ℕ → Option Told → Type 0
EndsWithin count None = ⊤
EndsWithin count (Some told) = (at : ℕ) × (told.end ≡ Some at) × (at ≤ count)

-- it has told its end
abbrev pub HasEnded : Option Told → Type 0
HasEnded told = EndsWithin (given_by told) told

-- what a stream that tells gave is so many bytes, and then these
abbrev pub IsAt : ℕ → Option Told → (input : List ℕ) → Type 0
IsAt count None input = ⊤
IsAt count (Some told) input = length told.given ≡ count + length input
