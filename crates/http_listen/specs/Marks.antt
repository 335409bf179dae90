-- What a log is told of the streams of connections.
use Rattle.std.specs.Prelude.{◌≡◌, ℕ, cond, nat_eq, List, [], ◌∷◌, ◌++◌, Option, None, Some, ⊤}

-- a stream, as its connection was opened, or as it was closed, with the connection's number
pub data Mark (S : Type 0) : Type 0 where
  at_opening : (number : ℕ) → S → Mark S
  at_closing : (number : ℕ) → S → Mark S

module _ {S : Type 0} where
  -- the number of a connection
  abbrev pub number_of : Mark S → ℕ
  number_of (at_opening number stream) = number
  number_of (at_closing number stream) = number

  -- what was told of one of them
  abbrev pub marks_of : ℕ → List (Mark S) → List (Mark S)
  marks_of number [] = []
  marks_of number (mark ∷ marks) = cond (nat_eq (number_of mark) number) (mark ∷ marks_of number marks) (marks_of number marks)

  -- a log that tells what it was told was told these more
  abbrev pub Adds : Option (List (Mark S)) → List (Mark S) → Option (List (Mark S)) → Type 0
  Adds None more new = ⊤
  Adds (Some old) more None = ⊥
  Adds (Some old) more (Some new) = new ≡ old ++ more
