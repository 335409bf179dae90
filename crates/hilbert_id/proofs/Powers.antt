-- Sides and counts of a zoom.
use Rattle.std.proofs.Common.{◌≡◌, ℕ, zero, suc, ◌+◌, ◌-◌, ◌*◌, ◌%◌, ◌^◌, ◌<◌, ◌≤◌, refl, arith, lit<}
use Rattle.std.proofs.lemmas.Nat.{pow-add}
use Rattle.std.proofs.Math.Nat.{pow-le-pow_right, pow-succ'}

pub two_below : (k m : ℕ) → k ≤ m → 2 ^ k ≤ 2 ^ m
two_below k m le = pow-le-pow_right {n = 2} (lit< tt) {i = k} {j = m} le

-- four is two twice
pub four_is : (k : ℕ) → 2 ^ (2 * k) ≡ 4 ^ k
four_is zero = refl
four_is (suc k) =
    let e : 2 * suc k ≡ 2 + 2 * k = omega arith in
    rw (e, pow-add 2 2 (2 * k), pow-succ' 4 k, four_is k) refl

-- a shift that keeps its bit
pub shift_32 : (k : ℕ) → k ≤ 30 → 1 * 2 ^ k % 4294967296 ≡ 2 ^ k
shift_32 k le = omega (arith, two_below k 30 le)

pub shift_64 : (k : ℕ) → k ≤ 31 → 1 * 2 ^ (2 * k) % 18446744073709551616 ≡ 4 ^ k
shift_64 k le =
    let small : 2 ^ (2 * k) ≤ 2 ^ 62 = two_below (2 * k) 62 (omega arith) in
    let e = four_is k in
    omega (arith, small, e)

pub four_next : (zoom : ℕ) → 0 < zoom → 4 * 4 ^ (zoom - 1) ≡ 4 ^ zoom
four_next zoom lt = next zoom (zoom - 1) (omega arith)
  where
    next : (zoom k : ℕ) → zoom ≡ suc k → 4 * 4 ^ k ≡ 4 ^ zoom
    next zoom k e = rw (e, pow-succ' 4 k) refl

pub four_below : (k : ℕ) → k ≤ 30 → 4 ^ k ≤ 4 ^ 30
four_below k le = pow-le-pow_right {n = 4} (lit< tt) {i = k} {j = 30} le
