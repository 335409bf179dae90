-- Places in a ring.
use Rattle.std.proofs.Common.{◌≡◌, ◌⊎◌, inl, inr, ⊎_elim, ℕ, ◌≤◌, ◌<◌, ◌+◌, ◌-◌, ◌%◌, ◌∙◌, sym, arith}
use Rattle.std.proofs.lemmas.Bool.{cases_lt}
use Rattle.std.proofs.lemmas.Nat.{mod_below}
use Rattle.std.proofs.Math.Nat.{mod-eq_of_lt, mod-eq-sub-mod}
use Rattle.edit_journal.specs.Ring.{Ring, sector_at, IsInRing}

-- a place below twice the count, round the ring
pub wrap : (n x : ℕ) → x < n + n → ((x < n) × (x % n ≡ x)) ⊎ ((n ≤ x) × (x % n ≡ x - n))
wrap n x lt = ⊎_elim
    (λ (low : x < n). inl (low, mod-eq_of_lt low))
    (λ (high : n ≤ x). let below : x - n < n = omega (arith, lt, high) in inr (high, mod-eq-sub-mod high ∙ mod-eq_of_lt below))
    (cases_lt x n)

-- places that are less than the ring apart are others
pub places_apart : (ring : Ring) (x y : ℕ) → x < ring.places + ring.places → y < ring.places + ring.places
    → x < y + ring.places → y < x + ring.places → (x ≡ y → ⊥) → sector_at ring x ≡ sector_at ring y → ⊥
places_apart ring x y small small_too near near_too apart same = ⊎_elim
    (λ (a : (x < ring.places) × (x % ring.places ≡ x)). ⊎_elim
    (λ (b : (y < ring.places) × (y % ring.places ≡ y)). apart (omega (arith, same, a.1, b.1)))
    (λ (b : (ring.places ≤ y) × (y % ring.places ≡ y - ring.places)). omega (arith, same, a.1, b.0, b.1, near_too))
    (wrap ring.places y small_too))
    (λ (a : (ring.places ≤ x) × (x % ring.places ≡ x - ring.places)). ⊎_elim
    (λ (b : (y < ring.places) × (y % ring.places ≡ y)). omega (arith, same, a.0, a.1, b.1, near))
    (λ (b : (ring.places ≤ y) × (y % ring.places ≡ y - ring.places)). apart (omega (arith, same, a.0, a.1, b.0, b.1)))
    (wrap ring.places y small_too))
    (wrap ring.places x small)

-- the sector of a place is one of the ring's
pub in_ring : (ring : Ring) (place : ℕ) → 0 < ring.places → IsInRing ring (sector_at ring place)
in_ring ring place pos = (omega arith, omega (arith, mod_below place ring.places pos))

-- the index of a place in the ring
pub low_place : (n place index : ℕ) → place < n → index ≡ place → index ≡ place % n
low_place n place index lt is = is ∙ sym (mod-eq_of_lt lt)

pub high_place : (n place index : ℕ) → n ≤ place → place < n + n → index ≡ place - n → index ≡ place % n
high_place n place index le lt is =
    let below : place - n < n = omega (arith, lt, le) in
    is ∙ sym (mod-eq-sub-mod le ∙ mod-eq_of_lt below)
