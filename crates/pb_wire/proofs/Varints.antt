-- Spellings of numbers.
use Rattle.std.proofs.Common.{◌≡◌, ℕ, zero, suc, ◌+◌, ◌*◌, ◌/◌, ◌%◌, ◌^◌, ◌<◌, ◌≤◌, true, ltb, List, [], ◌∷◌, ◌++◌, length, refl, sym, ap, ◌∙◌}
use Rattle.std.proofs.Common.{append_assoc, arith}
use Rattle.std.proofs.Common.{inl, inr}
use Rattle.std.proofs.lemmas.Bool.{cases_lt, le-ltb, lt-ltb}
use Rattle.pb_wire.specs.Varint.{IsGroups, groups_value, IsVarint, shortest_in, varint}

-- above each number with a spelling of so many bytes before the last
unfoldable pub limit_in : ℕ → ℕ
limit_in zero = 2
limit_in (suc more) = 128 * limit_in more

pub limit_begins : (n : ℕ) → n < 2 ^ 64 → n < limit_in 9
unfolding limit_in
limit_begins n h = h

-- groups with one more in front
pub goes_on : (b : ℕ) (bytes : List ℕ) → 128 ≤ b → IsGroups bytes → IsGroups (b ∷ bytes)
goes_on b [] top h = absurd h
goes_on b (c ∷ cs) top h = (top, h)

pub limit_step : (more next n : ℕ) → more ≡ suc next → n < limit_in more → n / 128 < limit_in next
unfolding limit_in
limit_step more next n k below =
    let here : n < 128 * limit_in next = rw k at below in
    omega arith

pub shortest_last : (more n : ℕ) → n < 128 → shortest_in more n ≡ n ∷ []
unfolding shortest_in
shortest_last zero n low = refl
shortest_last (suc more) n low =
    let short : ltb n 128 ≡ true = lt-ltb n 128 low in
    rw short refl

-- more room changes nothing
shortest_enough : (more n : ℕ) → n < limit_in more → shortest_in more n ≡ shortest_in (suc more) n
unfolding shortest_in limit_in
shortest_enough zero n below = rw (lt-ltb n 128 (omega (arith, below))) refl
shortest_enough (suc more) n below = elim (cases_lt n 128) [
  | inl low ↦ shortest_last (suc more) n low ∙ sym (shortest_last (suc (suc more)) n low)
  | inr high ↦ rw (le-ltb n 128 high)
      (ap (λ (r : List ℕ). (128 + n % 128) ∷ r) (shortest_enough more (n / 128) (limit_step (suc more) more n refl below)))
]

-- one byte
pub varint_last : (n : ℕ) → n < 128 → varint n ≡ n ∷ []
unfolding varint
varint_last n low = shortest_last 9 n low

-- one more byte, and the rest of the number
pub varint_step : (n : ℕ) → n < 2 ^ 64 → 128 ≤ n → varint n ≡ (128 + n % 128) ∷ varint (n / 128)
unfolding varint shortest_in
varint_step n small high =
    let behind = shortest_enough 8 (n / 128) (limit_step 9 8 n refl (limit_begins n small)) in
    rw (le-ltb n 128 high) (ap (λ (r : List ℕ). (128 + n % 128) ∷ r) behind)

-- a number of two bytes
pub varint_two : (n : ℕ) → 128 ≤ n → n < 16384 → varint n ≡ (128 + n % 128) ∷ n / 128 ∷ []
varint_two n high low =
    varint_step n (omega (arith, low)) high ∙ ap (λ (r : List ℕ). (128 + n % 128) ∷ r) (varint_last (n / 128) (omega (arith, low)))

pub varint_goes_on : (front : List ℕ) (n : ℕ) (whole : List ℕ) → n < 2 ^ 64 → 128 ≤ n → front ++ varint n ≡ whole
    → (front ++ (128 + n % 128) ∷ []) ++ varint (n / 128) ≡ whole
varint_goes_on front n whole small high so_far =
    append_assoc front ((128 + n % 128) ∷ []) (varint (n / 128)) ∙ ap (λ (r : List ℕ). front ++ r) (sym (varint_step n small high)) ∙ so_far

pub varint_shorter : (n : ℕ) → n < 2 ^ 64 → 128 ≤ n → length (varint n) ≡ 1 + length (varint (n / 128))
varint_shorter n small high = let e = ap length (varint_step n small high) in omega (arith, e)

pub varint_some : (n : ℕ) → 0 < length (varint n)
unfolding varint shortest_in
varint_some n = elim (cases_lt n 128) [
  | inl low ↦ rw (lt-ltb n 128 low) (omega arith)
  | inr high ↦ rw (le-ltb n 128 high) (omega arith)
]

-- ---- the shortest spelling is one, and none is shorter

pub record SpellsIn (bytes : List ℕ) (more n : ℕ) : Type 0 where
  pub groups : IsGroups bytes
  pub len : length bytes ≤ more + 1
  pub value : groups_value bytes ≡ n

pub shortest_spells : (more n : ℕ) → n < limit_in more → SpellsIn (shortest_in more n) more n
unfolding shortest_in limit_in
shortest_spells zero n below = record { groups = omega arith; len = omega arith; value = omega arith }
shortest_spells (suc more) n below = elim (cases_lt n 128) [
  | inl low ↦ rw (lt-ltb n 128 low) record { groups = low; len = omega arith; value = omega arith }
  | inr high ↦ rw (le-ltb n 128 high) (
      let next = shortest_spells more (n / 128) (limit_step (suc more) more n refl below) in
      let value : (128 + n % 128) % 128 + 128 * groups_value (shortest_in more (n / 128)) ≡ n = rw next.value (omega arith) in
      record { groups = goes_on (128 + n % 128) (shortest_in more (n / 128)) (omega arith) next.groups; len = omega (arith, next.len); value = value })
]

pub varint_spells : (n : ℕ) → n < 2 ^ 64 → IsVarint (varint n) n
unfolding varint limit_in
varint_spells n below =
    let s = shortest_spells 9 n below in
    record { groups = s.groups; len = s.len; value = s.value; fits = below }

-- one byte is the least
short_one : (more n : ℕ) → n < 128 → length (shortest_in more n) ≡ 1
short_one more n low = ap length (shortest_last more n low)

pub none_shorter : (bytes : List ℕ) (more n : ℕ) → IsGroups bytes → groups_value bytes ≡ n → length (shortest_in more n) ≤ length bytes
unfolding shortest_in
none_shorter [] more n groups value = absurd groups
none_shorter (b ∷ []) more n groups value =
    let low : n < 128 = omega arith in
    omega (arith, short_one more n low)
none_shorter (b ∷ c ∷ cs) zero n groups value = omega arith
none_shorter (b ∷ c ∷ cs) (suc more) n groups value = elim (cases_lt n 128) [
  | inl low ↦ omega (arith, short_one (suc more) n low)
  | inr high ↦ rw (le-ltb n 128 high) (
      let e : groups_value (c ∷ cs) ≡ n / 128 = omega arith in
      let next = none_shorter (c ∷ cs) more (n / 128) groups.1 e in
      omega (arith, next))
]

pub varint_shortest : (bytes : List ℕ) (n : ℕ) → IsVarint bytes n → length (varint n) ≤ length bytes
unfolding varint
varint_shortest bytes n h = none_shorter bytes 9 n h.groups h.value
