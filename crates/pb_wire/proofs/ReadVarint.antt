-- Reading a number, byte by byte.
use Rattle.std.proofs.Common.{◌≡◌, ℕ, zero, suc, ◌+◌, ◌-◌, ◌*◌, ◌%◌, ◌^◌, ◌<◌, ◌≤◌, true, false, ltb, List, [], ◌∷◌, length, get_or, drop, refl}
use Rattle.std.specs.Prelude.{slice_get}
use Rattle.std.proofs.Common.{Some, Result, Ok, Err, arith, add-one, ◌⊎◌, inl, inr, lit<}
use Rattle.std.proofs.lemmas.Bool.{le-ltb, lt-ltb}
use Rattle.std.proofs.lemmas.Nat.{pow-add}
use Rattle.std.proofs.lemmas.List.{drop_all}
use Rattle.std.proofs.Math.Seq.{drop-cons}
use Rattle.std.proofs.Math.Nat.{pow-le-pow_right, mul-le-mul_right}
use Rattle.pb_wire.specs.declared.fault.FaultKind.{FaultKind}
use Rattle.pb_wire.specs.declared.fault.FaultKind.TheVariants.{Cut, Varint}
use Rattle.pb_wire.specs.Varint.{behind, read_in, varint_at}

-- what was read before, and the number behind it
unfoldable pub with_value : ℕ → ℕ → Result (ℕ × ℕ) FaultKind → Result (ℕ × ℕ) FaultKind
with_value v i (Ok r) = Ok (v + 2 ^ (7 * i) * r.0, i + r.1)
with_value v i (Err kind) = Err kind

abbrev found : ℕ → ℕ → Result (ℕ × ℕ) FaultKind
found n len = Ok (n, len)

-- each byte but a tenth has seven bits, and the tenth one
abbrev pub HasRoom : ℕ → ℕ → Type 0
HasRoom i b = ((i ≡ 9) × (b ≤ 1)) ⊎ (i ≡ 9 → ⊥)

pub value_room : (v i b : ℕ) → i ≤ 9 → v < 2 ^ (7 * i) → HasRoom i b → v + b % 128 * 2 ^ (7 * i) < 2 ^ 64
value_room v i b le below (inl last) =
    let here : v < 2 ^ 63 = rw last.0 at below in
    rw last.0 (omega arith)
value_room v i b le below (inr more) =
    let k : i ≤ 8 = omega (arith, more) in
    let p : 2 ^ (7 * i) ≤ 2 ^ 56 = pow-le-pow_right {n = 2} (lit< tt) {i = 7 * i} {j = 56} (omega arith) in
    let q : b % 128 * 2 ^ (7 * i) ≤ 127 * 2 ^ (7 * i) = mul-le-mul_right (2 ^ (7 * i)) (omega arith) in
    omega arith

-- the shift loses no bit
pub shift_room : (v i b : ℕ) → i ≤ 9 → v < 2 ^ (7 * i) → HasRoom i b → b % 128 * 2 ^ (7 * i) % 18446744073709551616 ≡ b % 128 * 2 ^ (7 * i)
shift_room v i b le below room =
    let h : v + b % 128 * 2 ^ (7 * i) < 2 ^ 64 = value_room v i b le below room in
    omega arith

pub more_room : (i b : ℕ) → i ≤ 9 → 128 ≤ b → HasRoom i b → i < 9
more_room i b le high (inl last) = absurd (omega (arith, last.1))
more_room i b le high (inr more) = omega (arith, more)

power_next : (i : ℕ) → 2 ^ (7 * (i + 1)) ≡ 128 * 2 ^ (7 * i)
power_next i =
    let e : 7 * (i + 1) ≡ 7 + 7 * i = omega arith in
    rw e (pow-add 2 7 (7 * i))

pub value_next : (v i b : ℕ) → v < 2 ^ (7 * i) → v + b % 128 * 2 ^ (7 * i) < 2 ^ (7 * (i + 1))
value_next v i b below =
    let q : b % 128 * 2 ^ (7 * i) ≤ 127 * 2 ^ (7 * i) = mul-le-mul_right (2 ^ (7 * i)) (omega arith) in
    omega (arith, power_next i)

ok_is : (a b m n : ℕ) → a ≡ b → m ≡ n → found a m ≡ found b n
ok_is a b m n value len = cc

pub read_begins : (bytes : List ℕ) → with_value 0 0 (read_in bytes 9) ≡ varint_at bytes
unfolding varint_at with_value
read_begins bytes = same (read_in bytes 9)
  where
    same : (r : Result (ℕ × ℕ) FaultKind) → with_value 0 0 r ≡ r
    same (Ok r) = ok_is _ _ _ _ (omega arith) (omega arith)
    same (Err kind) = refl

front : (bytes : List ℕ) (i b : ℕ) → i < length bytes → b ≡ get_or bytes i 0 → drop i bytes ≡ b ∷ drop (i + 1) bytes
front bytes i b lt is = rw (is, add-one) (drop-cons bytes i 0 lt)

pub read_overlong : (bytes : List ℕ) (v i b : ℕ) → i < length bytes → b ≡ get_or bytes i 0 → i ≡ 9 → 1 < b
    → with_value v i (read_in (drop i bytes) (9 - i)) ≡ Err Varint
unfolding read_in with_value
read_overlong bytes v i b lt is last high =
    let k : 9 - i ≡ 0 = omega arith in
    let long : ltb b 2 ≡ false = le-ltb b 2 high in
    rw (front bytes i b lt is, k, long) refl

last_byte : (v i b : ℕ) (bs : List ℕ) (more : ℕ) → b < 128 → ((more ≡ 0) × (b ≤ 1)) ⊎ (more ≡ 0 → ⊥)
    → with_value v i (read_in (b ∷ bs) more) ≡ Ok (v + b % 128 * 2 ^ (7 * i), i + 1)
unfolding read_in with_value
last_byte v i b bs zero low room =
    let small : b < 2 = elim room [ inl last ↦ omega arith | inr not ↦ absurd (not refl) ] in
    let short : ltb b 2 ≡ true = lt-ltb b 2 small in
    let e : b % 128 ≡ b = omega arith in
    rw (short, e) (ok_is _ _ _ _ (omega arith) refl)
last_byte v i b bs (suc more) low room =
    let short : ltb b 128 ≡ true = lt-ltb b 128 low in
    let e : b % 128 ≡ b = omega arith in
    rw (short, e) (ok_is _ _ _ _ (omega arith) refl)

pub read_last : (bytes : List ℕ) (v i b : ℕ) → i ≤ 9 → i < length bytes → b ≡ get_or bytes i 0 → b < 128 → HasRoom i b
    → with_value v i (read_in (drop i bytes) (9 - i)) ≡ Ok (v + b % 128 * 2 ^ (7 * i), i + 1)
read_last bytes v i b le lt is low room =
    let room' : ((9 - i ≡ 0) × (b ≤ 1)) ⊎ (9 - i ≡ 0 → ⊥) = elim room [ inl last ↦ inl (omega arith, last.1) | inr more ↦ inr (λ e. more (omega arith)) ] in
    rw (front bytes i b lt is) (last_byte v i b (drop (i + 1) bytes) (9 - i) low room')

one_more : (v i b : ℕ) (r : Result (ℕ × ℕ) FaultKind) → with_value v i (behind b r) ≡ with_value (v + b % 128 * 2 ^ (7 * i)) (i + 1) r
unfolding with_value behind
one_more v i b (Ok r) =
    let value : v + 2 ^ (7 * i) * (b % 128 + 128 * r.0) ≡ v + b % 128 * 2 ^ (7 * i) + 2 ^ (7 * (i + 1)) * r.0 = rw (power_next i) (omega arith) in
    let len : i + (r.1 + 1) ≡ i + 1 + r.1 = omega arith in
    rw (value, len) refl
one_more v i b (Err kind) = refl

pub read_more : (bytes : List ℕ) (v i b : ℕ) → i < 9 → i < length bytes → b ≡ get_or bytes i 0 → 128 ≤ b
    → with_value v i (read_in (drop i bytes) (9 - i)) ≡ with_value (v + b % 128 * 2 ^ (7 * i)) (i + 1) (read_in (drop (i + 1) bytes) (9 - (i + 1)))
unfolding read_in
read_more bytes v i b room lt is high =
    let k : 9 - i ≡ suc (9 - (i + 1)) = omega arith in
    let long : ltb b 128 ≡ false = le-ltb b 128 high in
    rw (front bytes i b lt is, k, long) (one_more v i b (read_in (drop (i + 1) bytes) (9 - (i + 1))))

pub read_cut : (bytes : List ℕ) (v i : ℕ) → length bytes ≤ i → with_value v i (read_in (drop i bytes) (9 - i)) ≡ Err Cut
unfolding read_in with_value
read_cut bytes v i le = rw (drop_all i bytes le) refl

-- a first byte below 128 is the number
pub read_short : (bytes : List ℕ) (b : ℕ) → slice_get bytes 0 ≡ Some b → b < 128 → varint_at bytes ≡ found b 1
unfolding varint_at read_in
read_short [] b is low = absurd cc
read_short (x ∷ xs) b is low =
    let same : x ≡ b = cc in
    let short : ltb b 128 ≡ true = lt-ltb b 128 low in
    rw (same, short) refl
