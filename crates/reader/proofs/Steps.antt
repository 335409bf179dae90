-- Steps that may fail, one after the other.
use Rattle.std.proofs.Common.{◌≡◌, ◌≢◌, ℕ, suc, ◌+◌, ◌-◌, ◌<◌, ◌≤◌, ◌⊎◌, inl, inr, Bool, true, false, cond, List, [], ◌∷◌, Result, Ok, Err, MatchResult}
use Rattle.std.proofs.Common.{refl, sym, ap, subst, ◌∙◌, arith}
use Rattle.std.proofs.lemmas.Bool.{false≢true}
use Rattle.std.specs.Prelude.{IfOk, IfErr, IsOk}
use Rattle.reader.specs.Reading.{Read, ◌>>=◌, repeated, folded, GivesUnless, Gives}

module _ {Fault : Type 0} where
  -- ---- what was read

  abbrev pub done : {A : Type 0} → A → Read Fault A
  done x = Ok x

  abbrev pub failed : {A : Type 0} → Fault → Read Fault A
  failed fault = Err fault

  pub same_value : {A : Type 0} (x y : A) → done x ≡ done y → x ≡ y
  same_value x y e = cc

  pub same_fault : {A : Type 0} (c d : Fault) → failed {A = A} c ≡ failed d → c ≡ d
  same_fault c d e = cc

  pub not_both : {A : Type 0} (x : A) (d : Fault) → done x ≡ failed d → ⊥
  not_both x d e = cc

  -- ---- one step after another

  -- both were made
  pub then_ok : {A B : Type 0} (first : Read Fault A) (next : A → Read Fault B) (y : B)
      → (first >>= next) ≡ Ok y → (x : A) × (first ≡ Ok x) × (next x ≡ Ok y)
  then_ok (Ok x) next y e = (x, refl, e)
  then_ok (Err d) next y e = absurd (not_both y d (sym e))

  -- the first led to the second
  pub then_on : {A B : Type 0} (first : Read Fault A) (next : A → Read Fault B) (x : A) → first ≡ Ok x → (first >>= next) ≡ next x
  then_on first next x e = ap (λ read. read >>= next) e

  -- the first met a fault
  pub then_stop : {A B : Type 0} (first : Read Fault A) (next : A → Read Fault B) (d : Fault) → first ≡ Err d → (first >>= next) ≡ Err d
  then_stop first next d e = ap (λ read. read >>= next) e

  -- ---- so many steps

  pub repeated_on : {S : Type 0} (step : S → Read Fault S) (count i : ℕ) (state next : S) (whole : Read Fault S)
      → i < count → repeated step (count - i) state ≡ whole → step state ≡ Ok next → repeated step (count - (i + 1)) next ≡ whole
  unfolding repeated
  repeated_on step count i state next whole less so_far stepped =
      let more : count - i ≡ suc (count - (i + 1)) = omega arith in
      let one : repeated step (count - i) state ≡ repeated step (count - (i + 1)) next = rw (more, stepped) refl in
      sym one ∙ so_far

  pub repeated_stop : {S : Type 0} (step : S → Read Fault S) (count i : ℕ) (state : S) (d : Fault) (whole : Read Fault S)
      → i < count → repeated step (count - i) state ≡ whole → step state ≡ Err d → whole ≡ Err d
  unfolding repeated
  repeated_stop step count i state d whole less so_far stepped =
      let more : count - i ≡ suc (count - (i + 1)) = omega arith in
      let one : repeated step (count - i) state ≡ Err d = rw (more, stepped) refl in
      sym so_far ∙ one

  pub repeated_done : {S : Type 0} (step : S → Read Fault S) (count i : ℕ) (state : S) (whole : Read Fault S)
      → count ≤ i → repeated step (count - i) state ≡ whole → whole ≡ Ok state
  unfolding repeated
  repeated_done step count i state whole all so_far =
      let none : count - i ≡ 0 = omega arith in
      let one : repeated step (count - i) state ≡ Ok state = rw none refl in
      sym so_far ∙ one

  -- ---- a step for each element

  module _ {S X : Type 0} (step : S → X → Read Fault S) where
    pub folded_on : (state next : S) (x : X) (left others : List X) (whole : Read Fault S)
        → left ≡ x ∷ others → folded step state left ≡ whole → step state x ≡ Ok next → folded step next others ≡ whole
    unfolding folded
    folded_on state next x left others whole first so_far stepped =
        let one : folded step state left ≡ folded step next others = rw (first, stepped) refl in
        sym one ∙ so_far

    pub folded_stop : (state : S) (x : X) (left others : List X) (d : Fault) (whole : Read Fault S)
        → left ≡ x ∷ others → folded step state left ≡ whole → step state x ≡ Err d → whole ≡ Err d
    unfolding folded
    folded_stop state x left others d whole first so_far stepped =
        let one : folded step state left ≡ Err d = rw (first, stepped) refl in
        sym so_far ∙ one

    pub folded_done : (state : S) (left : List X) (whole : Read Fault S) → left ≡ [] → folded step state left ≡ whole → whole ≡ Ok state
    unfolding folded
    folded_done state left whole nothing so_far =
        let one : folded step state left ≡ Ok state = rw nothing refl in
        sym so_far ∙ one

  -- ---- what a function answers

  -- a fault of a part is one of the whole
  pub unless_on : {A B : Type 0} (IsOutside : Fault → Type 0) (fault : Fault) (part : Read Fault A) (whole : Read Fault B)
      → ((d : Fault) → part ≡ Err d → whole ≡ Err d) → (¬ IsOutside fault → part ≡ Err fault) → ¬ IsOutside fault → whole ≡ Err fault
  unless_on IsOutside fault part whole on h inside = on fault (h inside)

  -- the same leads on: a fault of a part is one of the whole, an allocation that failed aside
  pub gives_on : {A B : Type 0} (memory fault : Fault) (part : Read Fault A) (whole : Read Fault B)
      → ((d : Fault) → part ≡ Err d → whole ≡ Err d) → (¬ (fault ≡ memory) → part ≡ Err fault) → ¬ (fault ≡ memory) → whole ≡ Err fault
  gives_on memory = unless_on (λ fault. fault ≡ memory)

  -- where an allocation may fail only where something is read, it may fail anywhere
  pub found_fault : {A : Type 0} (memory fault : Fault) (read : Read Fault A)
      → (read ≡ Err fault) ⊎ ((fault ≡ memory) × IsOk read) → ¬ (fault ≡ memory) → read ≡ Err fault
  found_fault memory fault read (inl e) other = e
  found_fault memory fault read (inr h) other = absurd (other h.0)

  -- what is answered has what all that is read has
  pub gives_holds : {X A : Type 0} (Has : A → Type 0) (memory : Fault) (view : X → A) (result : Result X Fault) (read : Read Fault A)
      → ((x : A) → read ≡ Ok x → Has x) → Gives memory view result read → IfOk result (λ x. Has (view x))
  gives_holds Has memory view (Ok x) read found gives = found (view x) gives
  gives_holds Has memory view (Err fault) read found gives = tt

  -- what is to be read is answered
  pub gives_only : {X A : Type 0} (memory : Fault) (view : X → A) (result : Result X Fault) (read : Read Fault A) (x : A)
      → read ≡ Ok x → Gives memory view result read → Gives memory view result (Ok x)
  gives_only memory view result read x there gives = subst (Gives memory view result) there gives

  -- a fault that is answered is one that there is, an allocation that failed aside
  pub gives_fault : {X A : Type 0} (Has : Fault → Type 0) (memory : Fault) (view : X → A) (result : Result X Fault) (read : Read Fault A)
      → ((d : Fault) → read ≡ Err d → Has d) → Gives memory view result read → IfErr result (λ d. ¬ (d ≡ memory) → Has d)
  gives_fault Has memory view (Ok x) read has gives = tt
  gives_fault Has memory view (Err fault) read has gives = λ other. has fault (gives other)

  -- what is read is what is found, where it is known of a fault whether it is from outside
  pub gives_found : {X A : Type 0} (IsOutside : Fault → Type 0) → ((d : Fault) → IsOutside d ⊎ (¬ IsOutside d))
      → (view : X → A) (r : Result X Fault) (read : Read Fault A) (y : A) → read ≡ Ok y → GivesUnless IsOutside view r read
      → MatchResult r (λ x. view x ≡ y) IsOutside
  gives_found IsOutside either view (Ok x) read y found gives = same_value (view x) y (sym gives ∙ found)
  gives_found IsOutside either view (Err d) read y found gives =
      elim (either d) [ inl outside ↦ outside | inr inside ↦ absurd (not_both y d (sym found ∙ gives inside)) ]

  -- ---- steps that met a fault, and steps that are the same

  -- the first met the fault, or what it led to did
  pub then_err : {A B : Type 0} (first : Read Fault A) (next : A → Read Fault B) (d : Fault)
      → (first >>= next) ≡ Err d → (first ≡ Err d) ⊎ ((x : A) × (first ≡ Ok x) × (next x ≡ Err d))
  then_err (Ok x) next d e = inr (x, refl, e)
  then_err {A} {B} (Err c) next d e = inl (ap (failed {A = A}) (same_fault {A = B} c d e))

  -- both were made, and give this
  pub then_is : {A B : Type 0} (first : Read Fault A) (next : A → Read Fault B) (x : A) (whole : Read Fault B)
      → first ≡ Ok x → next x ≡ whole → (first >>= next) ≡ whole
  then_is first next x whole there on = then_on first next x there ∙ on

  -- what behaves alike on what was read
  pub then_same : {A B : Type 0} (first : Read Fault A) (f g : A → Read Fault B) → ((x : A) → first ≡ Ok x → f x ≡ g x) → (first >>= f) ≡ (first >>= g)
  then_same (Ok x) f g alike = alike x refl
  then_same (Err d) f g alike = refl

  -- ---- tests

  -- what must not be wasn't
  pub guard_ok : {A : Type 0} (b : Bool) (d : Fault) (read : Read Fault A) (x : A) → cond b (Err d) read ≡ Ok x → (b ≡ false) × (read ≡ Ok x)
  guard_ok true d read x e = absurd (not_both x d (sym e))
  guard_ok false d read x e = (refl, e)

  -- what must be was
  pub pass_ok : {A : Type 0} (b : Bool) (d : Fault) (read : Read Fault A) (x : A) → cond b read (Err d) ≡ Ok x → (b ≡ true) × (read ≡ Ok x)
  pass_ok true d read x e = (refl, e)
  pass_ok false d read x e = absurd (not_both x d (sym e))

  -- the same of a fault that is met
  pub guard_err : {A : Type 0} (test : Bool) (c d : Fault) (read : Read Fault A)
      → cond test (Err c) read ≡ Err d → ((test ≡ true) × (d ≡ c)) ⊎ ((test ≡ false) × (read ≡ Err d))
  guard_err {A} true c d read e = inl (refl, sym (same_fault {A = A} c d e))
  guard_err false c d read e = inr (refl, e)

  pub pass_err : {A : Type 0} (test : Bool) (c d : Fault) (read : Read Fault A)
      → cond test read (Err c) ≡ Err d → ((test ≡ true) × (read ≡ Err d)) ⊎ ((test ≡ false) × (d ≡ c))
  pass_err true c d read e = inl (refl, e)
  pass_err {A} false c d read e = inr (refl, sym (same_fault {A = A} c d e))

  -- one of two readings
  pub either_ok : {A : Type 0} (test : Bool) (read other : Read Fault A) (y : A)
      → cond test read other ≡ Ok y → ((test ≡ true) × (read ≡ Ok y)) ⊎ ((test ≡ false) × (other ≡ Ok y))
  either_ok true read other y e = inl (refl, e)
  either_ok false read other y e = inr (refl, e)

-- ---- faults that are never met, and out of memory

module _ {Fault : Type 0} where
  -- neither the first nor what it leads to meets the fault
  pub then_never : {A B : Type 0} (d : Fault) (first : Read Fault A) (next : A → Read Fault B)
      → first ≢ Err d → ((x : A) → next x ≢ Err d) → (first >>= next) ≢ Err d
  then_never d (Ok x) next never each is = each x is
  then_never d (Err c) next never each is = never (ap failed (same_fault c d is))

  -- what is read meets no fault
  pub ok_never : {A : Type 0} (d : Fault) (read : Read Fault A) → IsOk read → read ≢ Err d
  ok_never d (Ok x) ok is = not_both x d is
  ok_never d (Err c) ok is = absurd (false≢true ok)

  -- a fault that is passed on is none that is never met
  pub passed_never : {A X : Type 0} (d : Fault) (read : Read Fault A) (passed : Result X Fault) (here there : Fault)
      → read ≢ Err d → read ≡ Err there → passed ≡ Err here → here ≡ there → passed ≢ Err d
  passed_never d read passed here there never is told same out =
      let e : there ≡ d = sym same ∙ same_fault here d (sym told ∙ out) in
      never (is ∙ ap failed e)

  -- each fault of the first is such a one, and each of what it leads to: so is each of both
  pub then_faults : {A B : Type 0} (Is : Fault → Type 0) (first : Read Fault A) (next : A → Read Fault B)
      → ((d : Fault) → first ≡ Err d → Is d) → ((x : A) (d : Fault) → next x ≡ Err d → Is d)
      → (d : Fault) → (first >>= next) ≡ Err d → Is d
  then_faults Is (Ok x) next here there d is = there x d is
  then_faults Is (Err c) next here there d is = here d (ap failed (same_fault c d is))
