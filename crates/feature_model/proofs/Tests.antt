-- What a test says of the limit that it tests.
use Rattle.std.proofs.Common.{◌≡◌, Bool, true, false, IsTrue}

-- a test that fails shows that its limit is broken
pub broken : {P : Type 0} (is : Bool) → (IsTrue is → P) × (P → IsTrue is) → is ≡ false → P → ⊥
broken true says e p = absurd cc
broken false says e p = let is_true = says.1 p in absurd cc

-- so the whole is refused
pub refused : {P : Type 0} → (P → ⊥) → (false ≡ true → P) × (P → false ≡ true)
refused breaks = (λ is. absurd cc, λ keeps. absurd (breaks keeps))

-- the second of two tests, where the first is passed
pub and_then : {A B : Type 0} (is : Bool) → A → (IsTrue is → B) × (B → IsTrue is) → (IsTrue is → A × B) × (A × B → IsTrue is)
and_then is a says = (λ b. (a, says.0 b), λ both. says.1 both.1)

-- the first of two tests, where it fails
pub and_else : {A B : Type 0} (is : Bool) → (IsTrue is → A) × (A → IsTrue is) → is ≡ false → (IsTrue is → A × B) × (A × B → IsTrue is)
and_else true says e = absurd cc
and_else false says e = (λ is. absurd cc, λ both. says.1 both.0)
