-- A tile has one id, and an id one tile.
use Rattle.std.proofs.Common.{◌≡◌, ℕ, zero, suc, ◌+◌, ◌-◌, ◌*◌, ◌/◌, ◌^◌, ◌<◌, ◌≤◌, inl, inr, refl, sym, ap, ◌∙◌, arith}
use Rattle.std.proofs.Math.Nat.{pow-succ'}
use Rattle.std.proofs.lemmas.Bool.{cases_lt}
use Rattle.hilbert_id.specs.declared.number.TheConstants.{TILE_IDS}
use Rattle.hilbert_id.specs.Curve.{StandsAt, first_id, IsTileId}
use Rattle.hilbert_id.proofs.Powers.{two_below, four_is}
use Rattle.hilbert_id.proofs.Positions.{one_position, one_tile, position_below}

-- a zoom has one tile more than a multiple of three
pub thirds : (z : ℕ) → 4 ^ z ≡ 3 * first_id z + 1
thirds zero = refl
thirds (suc z) = omega (arith, pow-succ' 4 z, thirds z)

-- behind the tiles of a zoom begin those of the next
pub first_next : (z : ℕ) → first_id (suc z) ≡ first_id z + 4 ^ z
first_next z = omega (arith, pow-succ' 4 z, thirds z)

first_after : (z more : ℕ) → first_id z + 4 ^ z ≤ first_id (suc (more + z))
first_after z zero = let k : zero + z ≡ z = omega arith in rw k (omega (arith, first_next z))
first_after z (suc more) =
    let k : suc more + z ≡ suc (more + z) = omega arith in
    rw k (omega (arith, first_after z more, first_next (suc (more + z))))

zoom_before : (z w n m : ℕ) → n < 4 ^ z → z < w → first_id z + n ≡ first_id w + m → ⊥
zoom_before z w n m small lt e =
    let k : w ≡ suc (w - suc z + z) = omega arith in
    let after : first_id z + 4 ^ z ≤ first_id w = rw k (first_after z (w - suc z)) in
    absurd (omega arith)

-- the ids of zooms 0 to 31 end there
pub below_end : (z : ℕ) → z ≤ 31 → first_id z + 4 ^ z ≤ TILE_IDS
below_end z le =
    let k : suc (31 - z + z) ≡ 32 = omega arith in
    let e : first_id (suc (31 - z + z)) ≡ first_id 32 = ap first_id k in
    omega (arith, first_after z (31 - z), e)

pub one_zoom : (z w n m : ℕ) → n < 4 ^ z → m < 4 ^ w → first_id z + n ≡ first_id w + m → z ≡ w
one_zoom z w n m hn hm e =
    elim (cases_lt z w) [
      | inl lt ↦ absurd (zoom_before z w n m hn lt e)
      | inr le ↦ elim (cases_lt w z) [ inl lt ↦ absurd (zoom_before w z m n hm lt (sym e)) | inr ge ↦ omega arith ]
    ]

pub one_id : (z x y a b : ℕ) → IsTileId z x y a → IsTileId z x y b → a ≡ b
one_id z x y a b h g = h.2 ∙ ap (λ (n : ℕ). first_id z + n) (one_position z x y h.0 g.0 h.1 g.1) ∙ sym g.2

same_zoom : (z w a b m : ℕ) → z ≡ w → StandsAt w a b m → StandsAt z a b m
same_zoom z w a b m e h = rw e h

pub one_tile_of : (z x y w a b id : ℕ) → IsTileId z x y id → IsTileId w a b id → (z ≡ w) × (x ≡ a) × (y ≡ b)
one_tile_of z x y w a b id h g =
    let e : first_id z + h.0 ≡ first_id w + g.0 = sym h.2 ∙ g.2 in
    let ez = one_zoom z w h.0 g.0 (position_below z x y h.0 h.1) (position_below w a b g.0 g.1) e in
    let n : h.0 ≡ g.0 = same_position z w h.0 g.0 ez e in
    let there : StandsAt z a b h.0 = moved z a b h.0 g.0 n (same_zoom z w a b g.0 ez g.1) in
    let both = one_tile z x y a b h.0 h.1 there in
    (ez, both.0, both.1)
  where
    same_position : (z w n m : ℕ) → z ≡ w → first_id z + n ≡ first_id w + m → n ≡ m
    same_position z w n m ez e = let k = ap first_id ez in omega arith

    moved : (z a b n m : ℕ) → n ≡ m → StandsAt z a b m → StandsAt z a b n
    moved z a b n m e h = rw e h

-- ---- the zoom of an id, by the bits of three times it and one

pub zoom_bits : (z bits id : ℕ) → z ≡ bits / 2 → 2 ^ bits ≤ 3 * id + 1 → 3 * id + 1 < 2 * 2 ^ bits → (first_id z ≤ id) × (id < first_id z + 4 ^ z)
zoom_bits z bits id half low high =
    let down : 2 ^ (2 * z) ≤ 2 ^ bits = two_below (2 * z) bits (omega arith) in
    let up : 2 ^ bits ≤ 2 ^ (2 * z + 1) = two_below bits (2 * z + 1) (omega arith) in
    let k : 2 * z + 1 ≡ suc (2 * z) = omega arith in
    let next : 2 ^ (2 * z + 1) ≡ 2 * 2 ^ (2 * z) = rw k (pow-succ' 2 (2 * z)) in
    (omega (arith, four_is z, thirds z), omega (arith, four_is z, thirds z))

-- no tile has an id behind them
pub no_tile_behind : (z x y id : ℕ) → z ≤ 31 → IsTileId z x y id → TILE_IDS ≤ id → ⊥
no_tile_behind z x y id le h past = absurd (omega (arith, below_end z le, position_below z x y h.0 h.1, h.2))
