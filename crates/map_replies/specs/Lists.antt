-- A list of texts, with commas between them.
use Rattle.std.specs.Prelude.{ℕ, List, [], ◌∷◌, ◌++◌, codes, Bool, true, false}

unfoldable pub comma : List ℕ
comma = codes ","

-- what comes before a text: a comma, if there is one before it
abbrev pub comma_if : (more : Bool) → List ℕ
comma_if true = comma
comma_if false = []

-- texts, each after a comma
abbrev pub more_joined : List (List ℕ) → List ℕ
more_joined [] = []
more_joined (text ∷ texts) = comma ++ (text ++ more_joined texts)

-- the same without a comma before the first
abbrev pub joined : List (List ℕ) → List ℕ
joined [] = []
joined (text ∷ texts) = text ++ more_joined texts
