-- Lists that are compared, one element after the other.
use Rattle.std.specs.Prelude.{◌≢◌, ◌≡◌, List, ◌∷◌, Option, Some, None}

-- the list after its first, where that is this one
abbrev pub IsAfter : {A X : Type 0} → (X → List A) → A → List A → Option X → Type 0
IsAfter view first list (Some x) = list ≡ first ∷ view x
IsAfter {A = A} view first list None = (others : List A) → list ≢ first ∷ others
