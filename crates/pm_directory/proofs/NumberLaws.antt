-- Numbers that are read are varints of the bytes, and varints of the bytes are read.
use Rattle.std.proofs.Common.{◌≡◌, ℕ, zero, suc, ◌*◌, ◌<◌, ◌≤◌, Bool, true, false, cond, ltb, List, [], ◌∷◌, ◌++◌, length, take, drop, Result, Ok, Err, ◌⊎◌}
use Rattle.std.proofs.Common.{inl, inr, refl, sym, ap, subst, ◌∙◌, append_assoc, append-nil, arith}
use Rattle.std.proofs.lemmas.List.{take-append-drop, drop_at}
use Rattle.pb_wire.specs.declared.fault.FaultKind.{FaultKind}
use Rattle.pb_wire.specs.declared.fault.FaultKind.TheVariants as kinds
use Rattle.pb_wire.specs.Varint.{IsVarint, behind, read_in, varint_at}
use Rattle.pb_wire.proofs.VarintLaws.{found, found_is, spelling_is_found, cut_is, overlong_is}
use Rattle.pm_directory.specs.declared.fault.DirectoryFault.{DirectoryFault}
use Rattle.pm_directory.specs.declared.fault.DirectoryFault.TheVariants as faults
use Rattle.pm_directory.specs.Directory.{AreVarints}
use Rattle.pm_directory.specs.Faulty.{NumberHas, cut, overlong, NumbersHave, HasRoom}
use Rattle.pm_directory.specs.Reading.{number_of, number_at, one_more, numbers_at}
use Rattle.reader.specs.Reading.{Read, ◌>>=◌, repeated}
use Rattle.reader.proofs.Steps.{done, same_value, same_fault, not_both, then_ok, then_err}
use Rattle.pm_directory.proofs.Steps.{one_on}

-- ---- a number alone has no fault of a field

abbrev wrong : FaultKind → Result (ℕ × ℕ) FaultKind
wrong kind = Err kind

not_found : (n : ℕ × ℕ) (kind : FaultKind) → Ok n ≡ wrong kind → ⊥
not_found n kind e = cc

chosen : {A : Type 0} (b : Bool) (x y z : A) → cond b x y ≡ z → (x ≡ z) ⊎ (y ≡ z)
chosen true x y z e = inl e
chosen false x y z e = inr e

behind_err : (b : ℕ) (r : Result (ℕ × ℕ) FaultKind) (kind : FaultKind) → behind b r ≡ Err kind → r ≡ Err kind
unfolding behind
behind_err b (Ok high) kind e = absurd cc
behind_err b (Err other) kind e = cc

-- the faults that a number may have
abbrev IsNumbers : FaultKind → Type 0
IsNumbers kinds.Cut = Unit {0}
IsNumbers kinds.Varint = Unit {0}
IsNumbers kinds.Number = ⊥
IsNumbers kinds.WireType = ⊥

of_fault : (c d : FaultKind) → wrong c ≡ wrong d → IsNumbers c → IsNumbers d
of_fault c d e h = let k : c ≡ d = cc in subst IsNumbers k h

read_fault : (bytes : List ℕ) (more : ℕ) (kind : FaultKind) → read_in bytes more ≡ Err kind → IsNumbers kind
unfolding read_in
read_fault [] more kind e = of_fault kinds.Cut kind e tt
read_fault (b ∷ bs) zero kind e =
    elim (chosen (ltb b 2) (Ok (b, 1)) (wrong kinds.Varint) (wrong kind) e) [
      | inl hit ↦ absurd (not_found (b, 1) kind hit)
      | inr other ↦ of_fault kinds.Varint kind other tt
    ]
read_fault (b ∷ bs) (suc more) kind e =
    elim (chosen (ltb b 128) (Ok (b, 1)) (behind b (read_in bs more)) (wrong kind) e) [
      | inl hit ↦ absurd (not_found (b, 1) kind hit)
      | inr other ↦ read_fault bs more kind (behind_err b (read_in bs more) kind other)
    ]

varint_fault : (bytes : List ℕ) (kind : FaultKind) → varint_at bytes ≡ Err kind → IsNumbers kind
unfolding varint_at
varint_fault bytes kind e = read_fault bytes 9 kind e

-- ---- one number

number_ok : (bytes : List ℕ) (r : Result (ℕ × ℕ) FaultKind) (n : ℕ) (rest : List ℕ) → number_of bytes r ≡ Ok (n, rest)
    → (len : ℕ) × (r ≡ Ok (n, len)) × (rest ≡ drop len bytes)
unfolding number_of
number_ok bytes (Ok x) n rest e =
    let p = same_value (x.0, drop x.1 bytes) (n, rest) e in
    let first : x.0 ≡ n = ap (λ (q : ℕ × List ℕ). q.0) p in
    let second : drop x.1 bytes ≡ rest = ap (λ (q : ℕ × List ℕ). q.1) p in
    (x.1, ap (λ (k : ℕ). found k x.1) first, sym second)
number_ok bytes (Err kinds.Cut) n rest e = absurd (not_both (n, rest) faults.Cut (sym e))
number_ok bytes (Err kinds.Varint) n rest e = absurd (not_both (n, rest) faults.Varint (sym e))
number_ok bytes (Err kinds.Number) n rest e = absurd (not_both (n, rest) faults.Cut (sym e))
number_ok bytes (Err kinds.WireType) n rest e = absurd (not_both (n, rest) faults.Cut (sym e))

pub number_found : (bytes : List ℕ) (n : ℕ) (rest : List ℕ) → number_at bytes ≡ Ok (n, rest) → (front : List ℕ) × (bytes ≡ front ++ rest) × IsVarint front n
unfolding number_at
number_found bytes n rest e =
    let x = number_ok bytes (varint_at bytes) n rest e in
    let h = found_is bytes n x.0 x.1 in
    (take x.0 bytes, sym (take-append-drop x.0 bytes) ∙ ap (λ (r : List ℕ). take x.0 bytes ++ r) (sym x.2), h.1)

-- there are enough bytes for the numbers of the entries
pub has_room : (bytes : List ℕ) (n : ℕ) (rest : List ℕ) → number_at bytes ≡ Ok (n, rest) → 4 * n ≤ length rest → 0 < 4 * n → HasRoom bytes
has_room bytes n rest e room some = let h = number_found bytes n rest e in (n, h.0, rest, h.1, h.2, omega arith, room)

pub number_only : (front rest : List ℕ) (n : ℕ) → IsVarint front n → number_at (front ++ rest) ≡ Ok (n, rest)
unfolding number_at number_of
number_only front rest n h =
    ap (number_of (front ++ rest)) (spelling_is_found front rest n h) ∙ ap (λ (r : List ℕ). done (n, r)) (drop_at front rest (length front) refl)

number_has : (bytes : List ℕ) (r : Result (ℕ × ℕ) FaultKind) (d : DirectoryFault) → varint_at bytes ≡ r → number_of bytes r ≡ Err d → NumberHas bytes d
unfolding number_of
number_has bytes (Ok x) d is e = absurd (not_both (x.0, drop x.1 bytes) d e)
number_has bytes (Err kinds.Cut) d is e = cut (sym (same_fault {A = ℕ × List ℕ} faults.Cut d e)) (cut_is bytes is)
number_has bytes (Err kinds.Varint) d is e = overlong (sym (same_fault {A = ℕ × List ℕ} faults.Varint d e)) (overlong_is bytes is)
number_has bytes (Err kinds.Number) d is e = absurd (varint_fault bytes kinds.Number is)
number_has bytes (Err kinds.WireType) d is e = absurd (varint_fault bytes kinds.WireType is)

pub number_err : (bytes : List ℕ) (d : DirectoryFault) → number_at bytes ≡ Err d → NumberHas bytes d
unfolding number_at
number_err bytes d e = number_has bytes (varint_at bytes) d refl e

-- ---- numbers one after the other

-- a number that was read after others is then the first
one_found : (before bytes all rest : List ℕ) → one_more (before, bytes) ≡ Ok (all, rest)
    → (n : ℕ) × (front : List ℕ) × (all ≡ before ++ n ∷ []) × (bytes ≡ front ++ rest) × IsVarint front n
unfolding one_more
one_found before bytes all rest e =
    let x = then_ok (number_at bytes) (λ x. done (before ++ x.0 ∷ [], x.1)) (all, rest) e in
    let both = same_value (before ++ x.0.0 ∷ [], x.0.1) (all, rest) x.2 in
    let behind : x.0.1 ≡ rest = ap (λ (q : List ℕ × List ℕ). q.1) both in
    let n = number_found bytes x.0.0 x.0.1 x.1 in
    (x.0.0, n.0, sym (ap (λ (q : List ℕ × List ℕ). q.0) both), n.1 ∙ ap (λ (r : List ℕ). n.0 ++ r) behind, n.2)

one_err : (before bytes : List ℕ) (d : DirectoryFault) → one_more (before, bytes) ≡ Err d → NumberHas bytes d
unfolding one_more
one_err before bytes d e =
    elim (then_err (number_at bytes) (λ x. done (before ++ x.0 ∷ [], x.1)) d e) [
      | inl here ↦ number_err bytes d here
      | inr x ↦ absurd (not_both (before ++ x.0.0 ∷ [], x.0.1) d x.2)
    ]

pub record AreRead (count : ℕ) (before bytes all rest : List ℕ) : Type 0 where
  pub numbers : List ℕ
  pub front : List ℕ
  pub all_is : all ≡ before ++ numbers
  pub count_is : length numbers ≡ count
  pub parts : bytes ≡ front ++ rest
  pub spelled : AreVarints front numbers

found_behind : (count : ℕ) (before bytes all rest : List ℕ) → repeated one_more count (before, bytes) ≡ Ok (all, rest) → AreRead count before bytes all rest
unfolding repeated
found_behind zero before bytes all rest e =
    let p = same_value (before, bytes) (all, rest) e in
    record {
      numbers = [];
      front = [];
      all_is = sym (ap (λ (q : List ℕ × List ℕ). q.0) p) ∙ sym (append-nil before);
      count_is = refl;
      parts = ap (λ (q : List ℕ × List ℕ). q.1) p;
      spelled = refl;
    }
found_behind (suc more) before bytes all rest e =
    let x = then_ok (one_more (before, bytes)) (repeated one_more more) (all, rest) e in
    let n = one_found before bytes x.0.0 x.0.1 x.1 in
    let h = found_behind more x.0.0 x.0.1 all rest x.2 in
    record {
      numbers = n.0 ∷ h.numbers;
      front = n.1 ++ h.front;
      all_is = h.all_is ∙ ap (λ (r : List ℕ). r ++ h.numbers) n.2 ∙ append_assoc before (n.0 ∷ []) h.numbers;
      count_is = omega (arith, h.count_is);
      parts = n.3 ∙ ap (λ (r : List ℕ). n.1 ++ r) h.parts ∙ sym (append_assoc n.1 h.front rest);
      spelled = (n.1, h.front, refl, n.4, h.spelled);
    }

pub numbers_found : (count : ℕ) (bytes all rest : List ℕ) → numbers_at count bytes ≡ Ok (all, rest) → AreRead count [] bytes all rest
numbers_found count bytes all rest e = found_behind count [] bytes all rest e

only_behind : (numbers before front rest : List ℕ) → AreVarints front numbers
    → repeated one_more (length numbers) (before, front ++ rest) ≡ Ok (before ++ numbers, rest)
unfolding repeated
only_behind [] before front rest h = rw (h, append-nil before) refl
only_behind (n ∷ ns) before front rest h =
    let shape : front ++ rest ≡ h.0 ++ (h.1 ++ rest) = ap (λ (r : List ℕ). r ++ rest) h.2 ∙ append_assoc h.0 h.1 rest in
    let one : number_at (front ++ rest) ≡ Ok (n, h.1 ++ rest) = ap number_at shape ∙ number_only h.0 (h.1 ++ rest) n h.3 in
    ap (λ (r : Read DirectoryFault (List ℕ × List ℕ)). r >>= repeated one_more (length ns)) (one_on before (front ++ rest) (h.1 ++ rest) n one)
    ∙ only_behind ns (before ++ n ∷ []) h.1 rest h.4
    ∙ ap (λ (all : List ℕ). done (all, rest)) (append_assoc before (n ∷ []) ns)

pub numbers_only : (numbers front rest : List ℕ) → AreVarints front numbers → numbers_at (length numbers) (front ++ rest) ≡ Ok (numbers, rest)
numbers_only numbers front rest h = only_behind numbers [] front rest h

err_behind : (count : ℕ) (before bytes : List ℕ) (d : DirectoryFault) → repeated one_more count (before, bytes) ≡ Err d → NumbersHave count bytes d
unfolding repeated
err_behind zero before bytes d e = absurd (not_both (before, bytes) d e)
err_behind (suc more) before bytes d e =
    elim (then_err (one_more (before, bytes)) (repeated one_more more) d e) [
      | inl here ↦ record { numbers = []; front = []; rest = bytes; fewer = omega arith; parts = refl; spelled = refl; fault = one_err before bytes d here }
      | inr later ↦
          let n = one_found before bytes later.0.0 later.0.1 later.1 in
          let h = err_behind more later.0.0 later.0.1 d later.2 in
          record {
            numbers = n.0 ∷ h.numbers;
            front = n.1 ++ h.front;
            rest = h.rest;
            fewer = omega (arith, h.fewer);
            parts = n.3 ∙ ap (λ (r : List ℕ). n.1 ++ r) h.parts ∙ sym (append_assoc n.1 h.front h.rest);
            spelled = (n.1, h.front, refl, n.4, h.spelled);
            fault = h.fault;
          }
    ]

pub numbers_err : (count : ℕ) (bytes : List ℕ) (d : DirectoryFault) → numbers_at count bytes ≡ Err d → NumbersHave count bytes d
numbers_err count bytes d e = err_behind count [] bytes d e
