-- The tiles that have each of the different contents first.
use Rattle.std.specs.Prelude.{ℕ, List, [], ◌∷◌, Contains, ⊤}
use Rattle.pm_build.specs.Indexed.{IndexView}
use Rattle.pm_build.specs.Tiles.{Tile}

-- among the tiles is one of each id with the content
abbrev pub EachIsThere : List Tile → List ℕ → List (List ℕ) → Type 0
EachIsThere tiles [] [] = ⊤
EachIsThere tiles [] (c ∷ cs) = ⊥
EachIsThere tiles (id ∷ ids) [] = ⊥
EachIsThere tiles (id ∷ ids) (c ∷ cs) = Contains tiles (id, c) × EachIsThere tiles ids cs

-- the same of what is known of the contents
abbrev pub AreFirsts : List Tile → IndexView → Type 0
AreFirsts tiles v = EachIsThere tiles v.firsts v.contents
