-- Bytes of a content that isn't added yet.
use Rattle.std.specs.Prelude.{◌≡◌, ℕ, List, length, take}
use Rattle.std.specs.List.{concat}

-- the first bytes are these contents, one after the other; those after them belong to none yet
abbrev pub AreStored : (contents : List (List ℕ)) → (bytes : List ℕ) → Type 0
AreStored contents bytes = take (length (concat contents)) bytes ≡ concat contents
