-- What is decoded, in terms of what is at the start.
use Rattle.std.proofs.Common.{◌≡◌, ◌≢◌, ℕ, ◌+◌, ◌-◌, ◌<◌, ◌≤◌, ◌⊎◌, inl, inr, List, ◌++◌, length, take}
use Rattle.std.proofs.Common.{drop, Result, Ok, Err, cond, min, refl, sym, ap, ◌∙◌, length-append, append_assoc, arith}
use Rattle.std.proofs.lemmas.Bool.{cases_lt, le-ltb, lt-ltb}
use Rattle.std.proofs.lemmas.List.{take-append-drop, length-take}
use Rattle.std.proofs.Math.Seq.{take-append-add}
use Rattle.reader.proofs.Steps.{failed, not_both, same_fault}
use Rattle.edit_text.specs.declared.fault.TextFault.{TextFault}
use Rattle.edit_text.specs.declared.fault.TextFault.TheVariants.{Cut, Bad, Memory}
use Rattle.edit_text.specs.Decoding.{Begins}
use Rattle.edit_text.specs.Reading.{Part, cut_as_bad, read_within}
use Rattle.edit_text.proofs.Codecs.{AreBytes, Codec, bytes_before}
use Rattle.edit_text.proofs.Faults.{cut_is_not_memory, bad_is_not_memory}

-- ---- short and long bytes

module _ {A : Type 0} (most : ℕ) (read : List ℕ → Part A) (bytes : List ℕ) where
  within_short : length bytes < most → read_within most read bytes ≡ read bytes
  within_short l = ap (λ b. cond b (read bytes) (cut_as_bad (read (take most bytes)))) (lt-ltb (length bytes) most l)

  within_long : most ≤ length bytes → read_within most read bytes ≡ cut_as_bad (read (take most bytes))
  within_long l = ap (λ b. cond b (read bytes) (cut_as_bad (read (take most bytes)))) (le-ltb (length bytes) most l)

ok_from : {A : Type 0} (p : Part A) (x : A × List ℕ) → cut_as_bad p ≡ Ok x → p ≡ Ok x
ok_from (Ok y) x e = e
ok_from (Err Cut) x e = absurd (cc)
ok_from (Err _) x e = absurd (cc)

never_cut : {A : Type 0} (p : Part A) → cut_as_bad p ≡ Err Cut → ⊥
never_cut (Ok y) e = cc
never_cut (Err Cut) e = cc
never_cut (Err _) e = cc

is_memory : (fault : TextFault) → (fault ≡ Memory) ⊎ (fault ≢ Memory)
is_memory Memory = inl refl
is_memory _ = inr (λ e. cc)

front_of : (front rest : List ℕ) (n k : ℕ) → n ≡ length front + k → take n (front ++ rest) ≡ front ++ take k rest
front_of front rest n k e = ap (λ m. take m (front ++ rest)) e ∙ take-append-add front rest k

-- ---- texts of at most a given length, tied to what is read

-- The bytes that are cut.
abbrev CutWithin : ℕ → (List ℕ → Type 0) → List ℕ → Type 0
CutWithin most Ends bytes = (length bytes < most) × Ends bytes

pub record Limited {A : Type 0} (most : ℕ) (decode : List ℕ → Part A) (spell : A → List ℕ) (Is : A → Type 0) (Ends : List ℕ → Type 0) : Type 0 where
  pub found : (bytes : List ℕ) (x : A) (rest : List ℕ) → AreBytes bytes → decode bytes ≡ Ok (x, rest)
      → Begins spell Is x bytes × (length (spell x) + length rest ≡ min (length bytes) most)
  pub only : (bytes : List ℕ) (x : A) → Begins spell Is x bytes → (behind : List ℕ) × (decode bytes ≡ Ok (x, behind))
  pub cut : (bytes : List ℕ) → AreBytes bytes → decode bytes ≡ Err Cut → CutWithin most Ends bytes
  pub ends : (bytes : List ℕ) → CutWithin most Ends bytes → decode bytes ≡ Err Cut

module _ {A : Type 0} (most : ℕ) (read : List ℕ → Part A) (spell : A → List ℕ) (Table Is : A → Type 0) (Ends : List ℕ → Type 0)
    (codec : Codec read spell Table Ends) (to : (x : A) → Table x → length (spell x) ≤ most → Is x) (from : (x : A) → Is x → Table x)
    (short : (x : A) → Is x → length (spell x) ≤ most) where
  abbrev Found : A → List ℕ → List ℕ → Type 0
  Found x rest bytes = Begins spell Is x bytes × (length (spell x) + length rest ≡ min (length bytes) most)

  found_short : (bytes : List ℕ) (x : A) (rest : List ℕ) → length bytes < most → Table x × (bytes ≡ spell x ++ rest) → Found x rest bytes
  found_short bytes x rest l f =
      let len : length bytes ≡ length (spell x) + length rest = ap length f.1 ∙ length-append (spell x) rest in
      ((to x f.0 (omega (arith, len, l)), (rest, f.1)), omega (arith, len, l))

  found_long : (bytes : List ℕ) (x : A) (rest : List ℕ) → most ≤ length bytes → Table x × (take most bytes ≡ spell x ++ rest) → Found x rest bytes
  found_long bytes x rest l f =
      let len : length (take most bytes) ≡ length (spell x) + length rest = ap length f.1 ∙ length-append (spell x) rest in
      let front : length (take most bytes) ≡ most = omega (arith, length-take most bytes, l) in
      let whole = sym (take-append-drop most bytes) ∙ ap (λ r. r ++ drop most bytes) f.1 ∙ append_assoc (spell x) rest (drop most bytes) in
      ((to x f.0 (omega (arith, len, front)), (rest ++ drop most bytes, whole)), omega (arith, len, front, l))

  found_by : (bytes : List ℕ) (x : A) (rest : List ℕ) → AreBytes bytes → read_within most read bytes ≡ Ok (x, rest)
      → (length bytes < most) ⊎ (most ≤ length bytes) → Found x rest bytes
  found_by bytes x rest h d (inl l) = found_short bytes x rest l (codec.found bytes x rest h (sym (within_short most read bytes l) ∙ d))
  found_by bytes x rest h d (inr l) =
      let front = bytes_before (take most bytes) (drop most bytes) bytes (sym (take-append-drop most bytes)) h in
      found_long bytes x rest l (codec.found (take most bytes) x rest front
      (ok_from (read (take most bytes)) (x, rest) (sym (within_long most read bytes l) ∙ d)))

  only_by : (bytes : List ℕ) (x : A) (rest : List ℕ) → Is x → bytes ≡ spell x ++ rest
      → (length bytes < most) ⊎ (most ≤ length bytes) → (behind : List ℕ) × (read_within most read bytes ≡ Ok (x, behind))
  only_by bytes x rest is begins (inl l) = (rest, within_short most read bytes l ∙ ap read begins ∙ codec.reads x rest (from x is))
  only_by bytes x rest is begins (inr l) =
      let k = most - length (spell x) in
      let front : take most bytes ≡ spell x ++ take k rest = ap (take most) begins ∙ front_of (spell x) rest most k (omega (arith, short x is)) in
      (take k rest, within_long most read bytes l ∙ ap (λ b. cut_as_bad (read b)) front ∙ ap cut_as_bad (codec.reads x (take k rest) (from x is)))

  cut_by : (bytes : List ℕ) → AreBytes bytes → read_within most read bytes ≡ Err Cut → (length bytes < most) ⊎ (most ≤ length bytes)
      → CutWithin most Ends bytes
  cut_by bytes h d (inl l) = (l, codec.cut bytes h (sym (within_short most read bytes l) ∙ d))
  cut_by bytes h d (inr l) = absurd (never_cut (read (take most bytes)) (sym (within_long most read bytes l) ∙ d))

  pub limited : Limited most (read_within most read) spell Is Ends
  limited = record {
    found = λ bytes x rest h d. found_by bytes x rest h d (cases_lt (length bytes) most);
    only = λ bytes x begins. only_by bytes x begins.1.0 begins.0 begins.1.1 (cases_lt (length bytes) most);
    cut = λ bytes h d. cut_by bytes h d (cases_lt (length bytes) most);
    ends = λ bytes cut. within_short most read bytes cut.0 ∙ codec.ends bytes cut.1;
  }

-- ---- the clauses of an answer

module _ {A : Type 0} {most : ℕ} {decode : List ℕ → Part A} {spell : A → List ℕ} {Is : A → Type 0} {Ends : List ℕ → Type 0}
    (text : Limited most decode spell Is Ends) (bytes : List ℕ) where
  -- two are not decoded from the same bytes
  pub ok_only : (x : A) (rest : List ℕ) → decode bytes ≡ Ok (x, rest) → (y : A) → Begins spell Is y bytes → x ≡ y
  ok_only x rest d y begins =
      let other = text.only bytes y begins in
      let same : ◌≡◌ {A = A × List ℕ} (x, rest) (y, other.0) = cc in
      ap (λ q. q.0) same

  pub ok_not_cut : (x : A) (rest : List ℕ) → decode bytes ≡ Ok (x, rest) → CutWithin most Ends bytes → ⊥
  ok_not_cut x rest d cut = let other = text.ends bytes cut in cc

  module _ (fault : TextFault) (met : fault ≢ Memory → decode bytes ≡ Err fault) where
    pub err_only : (y : A) → Begins spell Is y bytes → fault ≡ Memory
    err_only y begins = elim (is_memory fault) [
      | inl memory ↦ memory
      | inr other ↦ let found = text.only bytes y begins in absurd (not_both (y, found.0) fault (sym found.1 ∙ met other))
    ]

    pub err_cut : AreBytes bytes → fault ≡ Cut → CutWithin most Ends bytes
    err_cut h e = text.cut bytes h (met (λ memory. cut_is_not_memory (sym e ∙ memory)) ∙ ap failed e)

    pub err_only_cut : CutWithin most Ends bytes → (fault ≡ Cut) ⊎ (fault ≡ Memory)
    err_only_cut cut = elim (is_memory fault) [
      | inl memory ↦ inr memory
      | inr other ↦ inl (same_fault fault Cut (sym (met other) ∙ text.ends bytes cut))
    ]

    pub err_bad : fault ≡ Bad → ¬ CutWithin most Ends bytes × ((y : A) → ¬ Begins spell Is y bytes)
    err_bad e =
        let bad = met (λ memory. bad_is_not_memory (sym e ∙ memory)) ∙ ap failed e in
        (λ cut. let other = text.ends bytes cut in cc, λ y begins. let other = (text.only bytes y begins).1 in cc)

pub told_either : {T : Type 0} (r : Result T TextFault) (fault : TextFault) → r ≡ Err fault → (fault ≡ Cut) ⊎ (fault ≡ Memory)
    → (r ≡ Err Cut) ⊎ (r ≡ Err Memory)
told_either r fault e (inl is) = inl (e ∙ ap (λ f. Err f) is)
told_either r fault e (inr is) = inr (e ∙ ap (λ f. Err f) is)
