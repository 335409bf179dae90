-- A tile stands at one position of its zoom's curve.
use Rattle.std.proofs.Common.{◌≡◌, ℕ, zero, suc, ◌+◌, ◌-◌, ◌*◌, ◌^◌, ◌<◌, cond, ltb, List, [], ◌∷◌, ◌++◌, length, get_or, map, Some, ◌⊎◌, inl, inr, refl, sym}
use Rattle.std.proofs.Common.{ap, ◌∙◌, arith}
use Rattle.std.specs.List.{slice_get}
use Rattle.std.proofs.lemmas.Option.{slice_get_within, slice_get-get_or}
use Rattle.std.proofs.lemmas.Bool.{cases_lt, lt-ltb, le-ltb}
use Rattle.std.proofs.Math.Nat.{pow-succ'}
use Rattle.hilbert_id.specs.Curve.{turned, below, across, flipped, curve, StandsAt}
use Rattle.hilbert_id.proofs.Stands.{length-curve, len_of, stands_first, stands_turned, stands_below, stands_across, stands_flipped, same_position}

-- an element of two lists is one of the first or of the second
get_split : {X : Type 0} (xs ys : List X) (n : ℕ) (x : X) → slice_get (xs ++ ys) n ≡ Some x
    → (slice_get xs n ≡ Some x) ⊎ ((m : ℕ) × (n ≡ length xs + m) × (slice_get ys m ≡ Some x))
get_split [] ys n x e = inr (n, omega arith, e)
get_split (a ∷ xs) ys zero x e = inl e
get_split (a ∷ xs) ys (suc n) x e =
    elim (get_split xs ys n x e) [ inl h ↦ inl h | inr h ↦ inr (h.0, omega (arith, h.1), h.2) ]

-- an element of a mapped list comes from one of the list
get_unmapped : (f : ℕ × ℕ → ℕ × ℕ) (ps : List (ℕ × ℕ)) (n : ℕ) (q : ℕ × ℕ) → slice_get (map f ps) n ≡ Some q
    → (p : ℕ × ℕ) × (slice_get ps n ≡ Some p) × (q ≡ f p)
get_unmapped f [] n q e = absurd cc
get_unmapped f (p ∷ ps) zero q e = (p, refl, cc)
get_unmapped f (p ∷ ps) (suc n) q e = get_unmapped f ps n q e

-- the quarter of the next curve that a position is in
data Quarter (k x y n : ℕ) : Type 0 where
  first : StandsAt k y x n → Quarter k x y n
  second : (b m : ℕ) → n ≡ 4 ^ k + m → y ≡ b + 2 ^ k → StandsAt k x b m → Quarter k x y n
  third : (a b m : ℕ) → n ≡ 2 * 4 ^ k + m → x ≡ a + 2 ^ k → y ≡ b + 2 ^ k → StandsAt k a b m → Quarter k x y n
  fourth : (a b m : ℕ) → n ≡ 3 * 4 ^ k + m → x ≡ 2 * 2 ^ k - 1 - b → y ≡ 2 ^ k - 1 - a → StandsAt k a b m → Quarter k x y n

put_first : (k x y n a b : ℕ) → x ≡ b → y ≡ a → StandsAt k a b n → Quarter k x y n
put_first k x y n a b ex ey h = first (rw (ex, ey) h)

put_second : (k x y n a b m : ℕ) → n ≡ 4 ^ k + m → x ≡ a → y ≡ b + 2 ^ k → StandsAt k a b m → Quarter k x y n
put_second k x y n a b m at ex ey h = second b m at ey (rw ex h)

in_first : (k x y n : ℕ) → slice_get (map turned (curve k)) n ≡ Some (x, y) → Quarter k x y n
in_first k x y n e =
    let h = get_unmapped turned (curve k) n (x, y) e in
    let p : ℕ × ℕ = h.0 in
    put_first k x y n p.0 p.1 (ap (λ (q : ℕ × ℕ). q.0) h.2) (ap (λ (q : ℕ × ℕ). q.1) h.2) h.1

in_second : (k x y n m : ℕ) → n ≡ 4 ^ k + m → slice_get (map (below (2 ^ k)) (curve k)) m ≡ Some (x, y) → Quarter k x y n
in_second k x y n m at e =
    let h = get_unmapped (below (2 ^ k)) (curve k) m (x, y) e in
    let p : ℕ × ℕ = h.0 in
    put_second k x y n p.0 p.1 m at (ap (λ (q : ℕ × ℕ). q.0) h.2) (ap (λ (q : ℕ × ℕ). q.1) h.2) h.1

in_third : (k x y n m : ℕ) → n ≡ 2 * 4 ^ k + m → slice_get (map (across (2 ^ k)) (curve k)) m ≡ Some (x, y) → Quarter k x y n
in_third k x y n m at e =
    let h = get_unmapped (across (2 ^ k)) (curve k) m (x, y) e in
    let p : ℕ × ℕ = h.0 in
    third p.0 p.1 m at (ap (λ (q : ℕ × ℕ). q.0) h.2) (ap (λ (q : ℕ × ℕ). q.1) h.2) h.1

in_fourth : (k x y n m : ℕ) → n ≡ 3 * 4 ^ k + m → slice_get (map (flipped (2 ^ k)) (curve k)) m ≡ Some (x, y) → Quarter k x y n
in_fourth k x y n m at e =
    let h = get_unmapped (flipped (2 ^ k)) (curve k) m (x, y) e in
    let p : ℕ × ℕ = h.0 in
    fourth p.0 p.1 m at (ap (λ (q : ℕ × ℕ). q.0) h.2) (ap (λ (q : ℕ × ℕ). q.1) h.2) h.1

quarter_of : (k x y n : ℕ) → StandsAt (suc k) x y n → Quarter k x y n
unfolding curve
quarter_of k x y n e =
    let c = curve k in
    let h = 2 ^ k in
    elim (get_split (map turned c) (map (below h) c ++ (map (across h) c ++ map (flipped h) c)) n (x, y) e) [
      | inl one ↦ in_first k x y n one
      | inr rest ↦
          elim (get_split (map (below h) c) (map (across h) c ++ map (flipped h) c) rest.0 (x, y) rest.2) [
            | inl two ↦ in_second k x y n rest.0 (omega (arith, len_of k turned, rest.1)) two
            | inr more ↦
                elim (get_split (map (across h) c) (map (flipped h) c) more.0 (x, y) more.2) [
                  | inl three ↦ in_third k x y n more.0 (omega (arith, len_of k turned, len_of k (below h), rest.1, more.1)) three
                  | inr four ↦ in_fourth k x y n four.0 (omega (arith, len_of k turned, len_of k (below h), len_of k (across h), rest.1, more.1, four.1)) four.2
                ]
          ]
    ]

-- what stands in a curve is a column and a row of its zoom
pub in_square : (k x y n : ℕ) → StandsAt k x y n → (x < 2 ^ k) × (y < 2 ^ k)
unfolding curve
in_square zero x y zero e =
    let p : ◌≡◌ {A = ℕ × ℕ} (0, 0) (x, y) = cc in
    let ex : 0 ≡ x = ap (λ (q : ℕ × ℕ). q.0) p in
    let ey : 0 ≡ y = ap (λ (q : ℕ × ℕ). q.1) p in
    (omega arith, omega arith)
in_square zero x y (suc n) e = absurd cc
in_square (suc k) x y n e =
    let next = pow-succ' 2 k in
    elim (quarter_of k x y n e) [
      | first h ↦ let s = in_square k y x n h in (omega (arith, next, s.1), omega (arith, next, s.0))
      | second b m at ey h ↦ let s = in_square k x b m h in (omega (arith, next, s.0), omega (arith, next, s.1))
      | third a b m at ex ey h ↦ let s = in_square k a b m h in (omega (arith, next, s.0), omega (arith, next, s.1))
      | fourth a b m at ex ey h ↦ let s = in_square k a b m h in (omega (arith, next, s.1), omega (arith, next, s.0))
    ]

-- the position of a column and a row
unfoldable position_of : ℕ → ℕ → ℕ → ℕ
position_of zero x y = 0
position_of (suc k) x y =
    cond (ltb x (2 ^ k))
    (cond (ltb y (2 ^ k)) (position_of k y x) (4 ^ k + position_of k x (y - 2 ^ k)))
    (cond (ltb y (2 ^ k)) (3 * 4 ^ k + position_of k (2 ^ k - 1 - y) (2 * 2 ^ k - 1 - x)) (2 * 4 ^ k + position_of k (x - 2 ^ k) (y - 2 ^ k)))

stands_there : (k x y n : ℕ) → StandsAt k x y n → n ≡ position_of k x y
unfolding curve position_of
stands_there zero x y zero e = refl
stands_there zero x y (suc n) e = absurd cc
stands_there (suc k) x y n e =
    elim (quarter_of k x y n e) [
      | first h ↦
          let s = in_square k y x n h in
          rw (lt-ltb x (2 ^ k) s.1, lt-ltb y (2 ^ k) s.0) (stands_there k y x n h)
      | second b m at ey h ↦
          let s = in_square k x b m h in
          let eb : y - 2 ^ k ≡ b = omega arith in
          rw (lt-ltb x (2 ^ k) s.0, le-ltb y (2 ^ k) (omega arith), eb) (omega (arith, stands_there k x b m h))
      | third a b m at ex ey h ↦
          let ea : x - 2 ^ k ≡ a = omega arith in
          let eb : y - 2 ^ k ≡ b = omega arith in
          rw (le-ltb x (2 ^ k) (omega arith), le-ltb y (2 ^ k) (omega arith), ea, eb) (omega (arith, stands_there k a b m h))
      | fourth a b m at ex ey h ↦
          let s = in_square k a b m h in
          let ea : 2 ^ k - 1 - y ≡ a = omega (arith, s.0) in
          let eb : 2 * 2 ^ k - 1 - x ≡ b = omega (arith, s.1) in
          rw (le-ltb x (2 ^ k) (omega (arith, s.1)), lt-ltb y (2 ^ k) (omega (arith, s.0)), ea, eb) (omega (arith, stands_there k a b m h))
    ]

-- a tile stands at one position
pub one_position : (k x y n m : ℕ) → StandsAt k x y n → StandsAt k x y m → n ≡ m
one_position k x y n m h g = stands_there k x y n h ∙ sym (stands_there k x y m g)

-- one tile stands at a position
pub one_tile : (k x y a b n : ℕ) → StandsAt k x y n → StandsAt k a b n → (x ≡ a) × (y ≡ b)
one_tile k x y a b n h g =
    let p : ◌≡◌ {A = ℕ × ℕ} (x, y) (a, b) = cc in
    (ap (λ (q : ℕ × ℕ). q.0) p, ap (λ (q : ℕ × ℕ). q.1) p)

-- a position is below the number of tiles
pub position_below : (k x y n : ℕ) → StandsAt k x y n → n < 4 ^ k
position_below k x y n h = omega (arith, slice_get_within (curve k) n (x, y) h, length-curve k)

-- each tile of a zoom is reached
pub reached : (k x y : ℕ) → x < 2 ^ k → y < 2 ^ k → (n : ℕ) × (n < 4 ^ k) × StandsAt k x y n
reached zero x y hx hy = (0, omega arith, stands_first 0 x y refl hx hy)
reached (suc k) x y hx hy =
    let two = pow-succ' 2 k in
    let four = pow-succ' 4 k in
    elim (cases_lt x (2 ^ k)) [
      | inl left ↦
          elim (cases_lt y (2 ^ k)) [
            | inl upper ↦ let h = reached k y x upper left in (h.0, omega (arith, four, h.1), stands_turned k y x h.0 h.2)
            | inr lower ↦
                let h = reached k x (y - 2 ^ k) left (omega arith) in (
                  4 ^ k + h.0,
                  omega (arith, four, h.1),
                  same_position (suc k) k x y (4 ^ k + h.0) x (y - 2 ^ k + 2 ^ k) (4 ^ k + h.0) refl refl (omega arith) refl
                      (stands_below k x (y - 2 ^ k) h.0 h.2),
                )
          ]
      | inr right ↦
          elim (cases_lt y (2 ^ k)) [
            | inl upper ↦
                let h = reached k (2 ^ k - 1 - y) (2 * 2 ^ k - 1 - x) (omega arith) (omega arith) in (
                  4 ^ k + (4 ^ k + (4 ^ k + h.0)),
                  omega (arith, four, h.1),
                  same_position (suc k) k x y (4 ^ k + (4 ^ k + (4 ^ k + h.0))) (2 * 2 ^ k - 1 - (2 * 2 ^ k - 1 - x)) (2 ^ k - 1 - (2 ^ k - 1 - y))
                      (4 ^ k + (4 ^ k + (4 ^ k + h.0))) refl (omega arith) (omega arith) refl (stands_flipped k (2 ^ k - 1 - y) (2 * 2 ^ k - 1 - x) h.0 h.2),
                )
            | inr lower ↦
                let h = reached k (x - 2 ^ k) (y - 2 ^ k) (omega arith) (omega arith) in (
                  4 ^ k + (4 ^ k + h.0),
                  omega (arith, four, h.1),
                  same_position (suc k) k x y (4 ^ k + (4 ^ k + h.0)) (x - 2 ^ k + 2 ^ k) (y - 2 ^ k + 2 ^ k) (4 ^ k + (4 ^ k + h.0)) refl (omega arith)
                      (omega arith) refl (stands_across k (x - 2 ^ k) (y - 2 ^ k) h.0 h.2),
                )
          ]
    ]

-- at each position stands a tile
pub filled : (k n : ℕ) → n < 4 ^ k → (x : ℕ) × (y : ℕ) × (x < 2 ^ k) × (y < 2 ^ k) × StandsAt k x y n
filled k n lt =
    let there = slice_get-get_or (curve k) n (0, 0) (omega (arith, length-curve k)) in
    let s = in_square k (get_or (curve k) n (0, 0)).0 (get_or (curve k) n (0, 0)).1 n there in
    ((get_or (curve k) n (0, 0)).0, (get_or (curve k) n (0, 0)).1, s.0, s.1, there)
