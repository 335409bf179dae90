-- What is read in front is a spelling, each spelling is read, and each fault says what stands there.
use Rattle.std.proofs.Common.{◌≡◌, ℕ, zero, suc, ◌+◌, ◌*◌, ◌%◌, ◌<◌, ◌≤◌, Bool, true, false, cond, ltb, List, [], ◌∷◌, ◌++◌, length, get_or, take, Result, Ok}
use Rattle.std.proofs.Common.{Err, refl, ap, subst, ◌∙◌, arith, ◌⊎◌, inl, inr}
use Rattle.std.specs.List.{AllByRecursion}
use Rattle.std.proofs.lemmas.Bool.{ltb-false, ltb-true, le-ltb, lt-ltb}
use Rattle.std.proofs.lemmas.List.{length-take}
use Rattle.pb_wire.specs.declared.fault.FaultKind.{FaultKind}
use Rattle.pb_wire.specs.declared.fault.FaultKind.TheVariants.{Cut, Varint}
use Rattle.pb_wire.specs.Varint.{IsGroups, groups_value, IsVarint, IsCut, IsOverlong, behind, read_in, varint_at}
use Rattle.pb_wire.proofs.Varints.{limit_in, goes_on}

-- a number and its length
abbrev pub Read : Type 0
Read = Result (ℕ × ℕ) FaultKind

-- the front of so many bytes spells n, where so many bytes may stand before the last
pub record Spells (bytes : List ℕ) (more n len : ℕ) : Type 0 where
  pub within : len ≤ length bytes
  pub short : len ≤ more + 1
  pub groups : IsGroups (take len bytes)
  pub value : groups_value (take len bytes) ≡ n
  pub below : n < limit_in more

pub chosen : {A : Type 0} (b : Bool) (x y z : A) → cond b x y ≡ z → ((b ≡ true) × (x ≡ z)) ⊎ ((b ≡ false) × (y ≡ z))
chosen true x y z e = inl (refl, e)
chosen false x y z e = inr (refl, e)

abbrev pub found : ℕ → ℕ → Read
found n len = Ok (n, len)

same_pair : (x y : ℕ × ℕ) → found x.0 x.1 ≡ found y.0 y.1 → x ≡ y
same_pair x y e = cc

fst_of : (a b m n : ℕ) → found a m ≡ found b n → (a ≡ b) × (m ≡ n)
fst_of a b m n e =
    let p = same_pair (a, m) (b, n) e in
    (ap (λ (x : ℕ × ℕ). x.0) p, ap (λ (x : ℕ × ℕ). x.1) p)

behind_ok : (b : ℕ) (r : Read) (n len : ℕ) → behind b r ≡ found n len → (high : ℕ × ℕ) × (r ≡ Ok high) × (b % 128 + 128 * high.0 ≡ n) × (high.1 + 1 ≡ len)
unfolding behind
behind_ok b (Ok high) n len e = (high, refl, (fst_of (b % 128 + 128 * high.0) n (high.1 + 1) len e).0, (fst_of (b % 128 + 128 * high.0) n (high.1 + 1) len e).1)
behind_ok b (Err kind) n len e = absurd cc

abbrev pub faulted : FaultKind → Read
faulted kind = Err kind

behind_found : (b h len : ℕ) → behind b (found h len) ≡ found (b % 128 + 128 * h) (suc len)
unfolding behind
behind_found b h len = ap (λ (k : ℕ). found (b % 128 + 128 * h) k) (omega arith)

limit_some : (more : ℕ) → 128 ≤ limit_in (suc more)
unfolding limit_in
limit_some zero = omega arith
limit_some (suc more) = omega (arith, limit_some more)

one_byte : (b : ℕ) (bs : List ℕ) (more n len : ℕ) → b < 128 → b < limit_in more → b ≡ n → 1 ≡ len → Spells (b ∷ bs) more n len
one_byte b bs more n len low below value size =
    subst (λ (k : ℕ). Spells (b ∷ bs) more n k) size record {
      within = omega arith;
      short = omega arith;
      groups = low;
      value = omega arith;
      below = omega arith;
    }

more_bytes : (b : ℕ) (bs : List ℕ) (more n len high size : ℕ) → 128 ≤ b → Spells bs more high size → b % 128 + 128 * high ≡ n → size + 1 ≡ len
    → Spells (b ∷ bs) (suc more) n len
unfolding limit_in
more_bytes b bs more n len high size top s value e =
    let below : b % 128 + 128 * high < 128 * limit_in more = omega (arith, s.below) in
    let k : suc size ≡ len = omega arith in
    subst (λ (m : ℕ). Spells (b ∷ bs) (suc more) m len) value (subst (λ (m : ℕ). Spells (b ∷ bs) (suc more) (b % 128 + 128 * high) m) k record {
      within = omega (arith, s.within);
      short = omega (arith, s.short);
      groups = goes_on b (take size bs) top s.groups;
      value = ap (λ (v : ℕ). b % 128 + 128 * v) s.value;
      below = below;
    })

not_found : (kind : FaultKind) (n len : ℕ) → Err kind ≡ found n len → ⊥
not_found kind n len e = cc

pub read_spells : (bytes : List ℕ) (more n len : ℕ) → read_in bytes more ≡ found n len → Spells bytes more n len
unfolding read_in limit_in
read_spells [] more n len e = absurd (not_found Cut n len e)
read_spells (b ∷ bs) zero n len e =
    elim (chosen (ltb b 2) (found b 1) (Err Varint) (found n len) e) [
      | inl hit ↦ let h = fst_of b n 1 len hit.1 in let low : b < 2 = ltb-true b 2 hit.0 in one_byte b bs zero n len (omega arith) low h.0 h.1
      | inr other ↦ absurd (not_found Varint n len other.1)
    ]
read_spells (b ∷ bs) (suc more) n len e =
    elim (chosen (ltb b 128) (found b 1) (behind b (read_in bs more)) (found n len) e) [
      | inl hit ↦ let h = fst_of b n 1 len hit.1 in let low : b < 128 = ltb-true b 128 hit.0 in
          one_byte b bs (suc more) n len low (omega (arith, limit_some more)) h.0 h.1
      | inr other ↦
          let r = behind_ok b (read_in bs more) n len other.1 in
          more_bytes b bs more n len r.0.0 r.0.1 (ltb-false b 128 other.0) (read_spells bs more r.0.0 r.0.1 r.1) r.2 r.3
    ]

-- ---- each spelling is read

pub spelling_reads : (front rest : List ℕ) (more : ℕ) → IsGroups front → length front ≤ more + 1 → groups_value front < limit_in more
    → read_in (front ++ rest) more ≡ found (groups_value front) (length front)
unfolding read_in limit_in
spelling_reads [] rest more groups short below = absurd groups
spelling_reads (b ∷ []) rest zero groups short below =
    let low : ltb b 2 ≡ true = lt-ltb b 2 (omega arith) in
    let value : b ≡ b % 128 + 128 * 0 = omega arith in
    rw low (ap (λ (n : ℕ). found n 1) value)
spelling_reads (b ∷ []) rest (suc more) groups short below =
    let low : ltb b 128 ≡ true = lt-ltb b 128 groups in
    let value : b ≡ b % 128 + 128 * 0 = omega arith in
    rw low (ap (λ (n : ℕ). found n 1) value)
spelling_reads (b ∷ c ∷ cs) rest zero groups short below = absurd (omega arith)
spelling_reads (b ∷ c ∷ cs) rest (suc more) groups short below =
    let high : ltb b 128 ≡ false = le-ltb b 128 groups.0 in
    let next = spelling_reads (c ∷ cs) rest more groups.1 (omega arith) (omega arith) in
    rw (high, next) (behind_found b (groups_value (c ∷ cs)) (length (c ∷ cs)))

-- ---- what each fault says

not_cut_found : (n len : ℕ) → found n len ≡ Err Cut → ⊥
not_cut_found n len e = cc

behind_err : (b : ℕ) (r : Read) (kind : FaultKind) → behind b r ≡ Err kind → r ≡ Err kind
unfolding behind
behind_err b (Ok high) kind e = absurd cc
behind_err b (Err other) kind e = cc

varint_not_cut : Err Varint ≡ faulted Cut → ⊥
varint_not_cut e = cc

cut_not_varint : Err Cut ≡ faulted Varint → ⊥
cut_not_varint e = cc

not_varint_found : (n len : ℕ) → found n len ≡ Err Varint → ⊥
not_varint_found n len e = cc

pub read_cut_is : (bytes : List ℕ) (more : ℕ) → read_in bytes more ≡ Err Cut → (length bytes < more + 1) × AllByRecursion (λ b. 128 ≤ b) bytes
unfolding read_in
read_cut_is [] more e = (omega arith, tt)
read_cut_is (b ∷ bs) zero e =
    elim (chosen (ltb b 2) (found b 1) (Err Varint) (Err Cut) e) [
      | inl hit ↦ absurd (not_cut_found b 1 hit.1)
      | inr other ↦ absurd (varint_not_cut other.1)
    ]
read_cut_is (b ∷ bs) (suc more) e =
    elim (chosen (ltb b 128) (found b 1) (behind b (read_in bs more)) (Err Cut) e) [
      | inl hit ↦ absurd (not_cut_found b 1 hit.1)
      | inr other ↦
          let h = read_cut_is bs more (behind_err b (read_in bs more) Cut other.1) in
          (omega (arith, h.0), (ltb-false b 128 other.0, h.1))
    ]

pub cut_is_read : (bytes : List ℕ) (more : ℕ) → length bytes < more + 1 → AllByRecursion (λ b. 128 ≤ b) bytes → read_in bytes more ≡ Err Cut
unfolding read_in behind
cut_is_read [] more short top = refl
cut_is_read (b ∷ bs) zero short top = absurd (omega arith)
cut_is_read (b ∷ bs) (suc more) short top =
    let high : ltb b 128 ≡ false = le-ltb b 128 top.0 in
    rw (high, cut_is_read bs more (omega arith) top.1) refl

pub read_overlong_is : (bytes : List ℕ) (more : ℕ) → read_in bytes more ≡ Err Varint
    → (more < length bytes) × AllByRecursion (λ b. 128 ≤ b) (take more bytes) × (1 < get_or bytes more 0)
unfolding read_in
read_overlong_is [] more e = absurd (cut_not_varint e)
read_overlong_is (b ∷ bs) zero e =
    elim (chosen (ltb b 2) (found b 1) (Err Varint) (Err Varint) e) [
      | inl hit ↦ absurd (not_varint_found b 1 hit.1)
      | inr other ↦ (omega arith, tt, ltb-false b 2 other.0)
    ]
read_overlong_is (b ∷ bs) (suc more) e =
    elim (chosen (ltb b 128) (found b 1) (behind b (read_in bs more)) (Err Varint) e) [
      | inl hit ↦ absurd (not_varint_found b 1 hit.1)
      | inr other ↦
          let h = read_overlong_is bs more (behind_err b (read_in bs more) Varint other.1) in
          (omega (arith, h.0), (ltb-false b 128 other.0, h.1), h.2)
    ]

pub overlong_is_read : (bytes : List ℕ) (more : ℕ) → more < length bytes → AllByRecursion (λ b. 128 ≤ b) (take more bytes) → 1 < get_or bytes more 0
    → read_in bytes more ≡ Err Varint
unfolding read_in behind
overlong_is_read [] more long top last = absurd (omega arith)
overlong_is_read (b ∷ bs) zero long top last =
    let high : ltb b 2 ≡ false = le-ltb b 2 last in
    rw high refl
overlong_is_read (b ∷ bs) (suc more) long top last =
    let high : ltb b 128 ≡ false = le-ltb b 128 top.0 in
    rw (high, overlong_is_read bs more (omega arith) top.1 last) refl

-- ---- the laws of a whole number

pub found_is : (bytes : List ℕ) (n len : ℕ) → varint_at bytes ≡ found n len → (len ≤ length bytes) × IsVarint (take len bytes) n
unfolding varint_at limit_in
found_is bytes n len e =
    let s = read_spells bytes 9 n len e in
    (s.within, record { groups = s.groups; len = omega (arith, length-take len bytes, s.short); value = s.value; fits = s.below })

pub spelling_is_found : (front rest : List ℕ) (n : ℕ) → IsVarint front n → varint_at (front ++ rest) ≡ found n (length front)
unfolding varint_at limit_in
spelling_is_found front rest n h =
    spelling_reads front rest 9 h.groups (omega (arith, h.len)) (rw h.value h.fits) ∙ ap (λ (m : ℕ). found m (length front)) h.value

pub cut_is : (bytes : List ℕ) → varint_at bytes ≡ Err Cut → IsCut bytes
unfolding varint_at
cut_is bytes e = read_cut_is bytes 9 e

pub is_cut : (bytes : List ℕ) → IsCut bytes → varint_at bytes ≡ Err Cut
unfolding varint_at
is_cut bytes h = cut_is_read bytes 9 h.0 h.1

pub overlong_is : (bytes : List ℕ) → varint_at bytes ≡ Err Varint → IsOverlong bytes
unfolding varint_at
overlong_is bytes e = read_overlong_is bytes 9 e

pub is_overlong : (bytes : List ℕ) → IsOverlong bytes → varint_at bytes ≡ Err Varint
unfolding varint_at
is_overlong bytes h = overlong_is_read bytes 9 h.0 h.1 h.2
