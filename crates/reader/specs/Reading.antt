-- Reading step by step: a value, or the first fault that is met. What a function answers is told beside it.
use Rattle.std.specs.Prelude.{◌≡◌, ◌⊎◌, ℕ, zero, suc, List, [], ◌∷◌, Result, Ok, Err, IsOk}

-- ---- reading

-- what was read, or a fault
abbrev pub Read : Type 0 → Type 0 → Type 0
Read Fault A = Result A Fault

-- first this, then what it leads to
infixl 10 ◌>>=◌
abbrev pub ◌>>=◌ : {Fault A B : Type 0} → Read Fault A → (A → Read Fault B) → Read Fault B
(Ok x) >>= next = next x
(Err fault) >>= next = Err fault

-- so many steps, each from where the one before it led
unfoldable pub repeated : {Fault S : Type 0} → (S → Read Fault S) → ℕ → S → Read Fault S
repeated step zero state = Ok state
repeated step (suc more) state = step state >>= repeated step more

-- a step for each element, each from where the one before it led
unfoldable pub folded : {Fault S X : Type 0} → (S → X → Read Fault S) → S → List X → Read Fault S
folded step state [] = Ok state
folded step state (x ∷ xs) = step state x >>= (λ next. folded step next xs)

-- ---- what a function answers

-- it answers what is read: it takes no memory
abbrev pub Reads : {Fault X A : Type 0} → (X → A) → Result X Fault → Read Fault A → Type 0
Reads view (Ok x) read = read ≡ Ok (view x)
Reads view (Err fault) read = read ≡ Err fault

-- the same, but an allocation may fail where something is read
abbrev pub Finds : {Fault X A : Type 0} → Fault → (X → A) → Result X Fault → Read Fault A → Type 0
Finds memory view (Ok x) read = read ≡ Ok (view x)
Finds memory view (Err fault) read = (read ≡ Err fault) ⊎ ((fault ≡ memory) × IsOk read)

-- the same, but a fault from outside of what is read may come anywhere
abbrev pub GivesUnless : {Fault X A : Type 0} → (Fault → Type 0) → (X → A) → Result X Fault → Read Fault A → Type 0
GivesUnless IsOutside view (Ok x) read = read ≡ Ok (view x)
GivesUnless IsOutside view (Err fault) read = ¬ IsOutside fault → read ≡ Err fault

-- the same, but an allocation may fail anywhere
abbrev pub Gives : {Fault X A : Type 0} → Fault → (X → A) → Result X Fault → Read Fault A → Type 0
Gives memory = GivesUnless (λ fault. fault ≡ memory)
