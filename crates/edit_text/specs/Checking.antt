-- What a check answers: where what is read ends, and not what it is.
use Rattle.std.specs.Prelude.{◌≡◌, ℕ, List, [], ◌∷◌, Result, Ok, Err}
use Rattle.std.specs.Ordering.{nat_cmp, is_lt}
use Rattle.std.specs.Cmp.Lexicographic.{slice_cmp}
use Rattle.feature_model.specs.Data.{TagData}
use Rattle.edit_text.specs.declared.fault.TextFault.{TextFault}
use Rattle.edit_text.specs.Reading.{Part, read_if, name_at}

-- it answers the bytes after what is read, or the fault that is met
abbrev pub Checks : {X A : Type 0} → (X → List ℕ) → Result X TextFault → Part A → Type 0
Checks {A = A} view (Ok x) part = (value : A) × (part ≡ Ok (value, view x))
Checks view (Err fault) part = part ≡ Err fault

-- the key of the last of these tags, or no bytes
unfoldable pub last_key : List TagData → List ℕ
last_key [] = []
last_key (t ∷ []) = t.key
last_key (t ∷ u ∷ ts) = last_key (u ∷ ts)

-- the name of a key after this one
unfoldable pub next_key_at : List ℕ → List ℕ → Part (List ℕ)
next_key_at last bytes = read_if (λ key. is_lt (slice_cmp nat_cmp last key)) (name_at bytes)
