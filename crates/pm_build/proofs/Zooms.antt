-- The first of the tiles has their lowest zoom, and the last one their highest.
use Rattle.std.proofs.Common.{◌≡◌, ℕ, zero, suc, ◌-◌, ◌^◌, ◌≤◌, inl, inr, Bool, true, false, cond, eqb, List, [], ◌∷◌, length, Some}
use Rattle.std.proofs.Common.{None, refl, ap, ◌∙◌, arith, lit<}
use Rattle.std.specs.List.{slice_get}
use Rattle.std.proofs.Math.Nat.{pow-le-pow_right, pow-succ'}
use Rattle.std.proofs.lemmas.Bool.{cases_lt, eqb-true, eqb-false}
use Rattle.hilbert_id.specs.Curve.{IsTileId}
use Rattle.hilbert_id.proofs.Ids.{thirds}
use Rattle.hilbert_id.proofs.Positions.{position_below}
use Rattle.pm_build.specs.Built.{tile_content}
use Rattle.pm_build.specs.Laid.{AreZooms}
use Rattle.pm_build.specs.Tiles.{Tile, IdsAscend}
use Rattle.pm_build.specs.Vector.{AreZoomsOf}

-- a tile of a lower zoom has a smaller id
zooms_ascend : (z x y id w a b other : ℕ) → IsTileId z x y id → IsTileId w a b other → id ≤ other → z ≤ w
zooms_ascend z x y id w a b other one later le =
    elim (cases_lt w z) [
      | inl lt ↦
          let up : 4 ^ suc w ≤ 4 ^ z = pow-le-pow_right {n = 4} (lit< tt) {i = suc w} {j = z} (omega (arith, lt)) in
          absurd (omega (arith, up, pow-succ' 4 w, thirds w, thirds z, position_below w a b later.0 later.1, one.2, later.2, le))
      | inr ge ↦ ge
    ]

-- a tile's id has a content
content_at : (ts : List Tile) (n : ℕ) (t : Tile) → slice_get ts n ≡ Some t → (bytes : List ℕ) × (tile_content ts t.0 ≡ Some bytes)
content_at [] n t is = absurd (cc)
content_at (u ∷ us) zero t is = by (eqb u.0 t.0) refl
  where
    same : u ≡ t
    same = cc

    by : (b : Bool) → eqb u.0 t.0 ≡ b → (bytes : List ℕ) × (cond b (Some u.1) (tile_content us t.0) ≡ Some bytes)
    by true here = (u.1, refl)
    by false other = absurd (eqb-false u.0 t.0 other (ap (λ (v : Tile). v.0) same))
content_at (u ∷ us) (suc n) t is = by (eqb u.0 t.0) (content_at us n t is)
  where
    by : (b : Bool) → (bytes : List ℕ) × (tile_content us t.0 ≡ Some bytes)
        → (bytes : List ℕ) × (cond b (Some u.1) (tile_content us t.0) ≡ Some bytes)
    by true behind = (u.1, refl)
    by false behind = behind

-- no id below the first one has a content
below_all : (from : ℕ) (ts : List Tile) (id : ℕ) (bytes : List ℕ) → IdsAscend from ts → tile_content ts id ≡ Some bytes → from ≤ id
below_all from [] id bytes ascend is = absurd (cc)
below_all from (t ∷ ts) id bytes ascend is = by (eqb t.0 id) refl is (below_all (suc t.0) ts id bytes ascend.1)
  where
    by : (b : Bool) → eqb t.0 id ≡ b → cond b (Some t.1) (tile_content ts id) ≡ Some bytes
        → (tile_content ts id ≡ Some bytes → suc t.0 ≤ id) → from ≤ id
    by true here found behind = omega (arith, eqb-true t.0 id here, ascend.0)
    by false other found behind = omega (arith, behind found, ascend.0)

from_first : (from : ℕ) (ts : List Tile) (first : Tile) (id : ℕ) (bytes : List ℕ) → slice_get ts 0 ≡ Some first → IdsAscend from ts
    → tile_content ts id ≡ Some bytes → first.0 ≤ id
from_first from [] first id bytes there ascend is = absurd (cc)
from_first from (t ∷ ts) first id bytes there ascend is = by (eqb t.0 id) refl is
  where
    same : t.0 ≡ first.0
    same = let whole : t ≡ first = cc in ap (λ (v : Tile). v.0) whole

    by : (b : Bool) → eqb t.0 id ≡ b → cond b (Some t.1) (tile_content ts id) ≡ Some bytes → first.0 ≤ id
    by true here found = omega (arith, eqb-true t.0 id here, same)
    by false other found = omega (arith, below_all (suc t.0) ts id bytes ascend.1 found, same)

-- what is last behind a tile
last_behind : (t u : Tile) (us : List Tile) (last : Tile) → slice_get (t ∷ u ∷ us) (length (t ∷ u ∷ us) - 1) ≡ Some last
    → slice_get (u ∷ us) (length (u ∷ us) - 1) ≡ Some last
last_behind t u us last there =
    let e : suc (length (u ∷ us) - 1) ≡ length (t ∷ u ∷ us) - 1 = omega arith in
    ap (λ (n : ℕ). slice_get (t ∷ u ∷ us) n) e ∙ there

to_last : (from : ℕ) (ts : List Tile) (last : Tile) (id : ℕ) (bytes : List ℕ) → slice_get ts (length ts - 1) ≡ Some last → IdsAscend from ts
    → tile_content ts id ≡ Some bytes → id ≤ last.0
to_last from [] last id bytes there ascend is = absurd (cc)
to_last from (t ∷ []) last id bytes there ascend is = by (eqb t.0 id) refl is
  where
    same : t.0 ≡ last.0
    same = let whole : t ≡ last = cc in ap (λ (v : Tile). v.0) whole

    by : (b : Bool) → eqb t.0 id ≡ b → cond b (Some t.1) None ≡ Some bytes → id ≤ last.0
    by true here found = omega (arith, eqb-true t.0 id here, same)
    by false other found = absurd (cc)
to_last from (t ∷ u ∷ us) last id bytes there ascend is =
    by (eqb t.0 id) refl is (to_last (suc t.0) (u ∷ us) last id bytes (last_behind t u us last there) ascend.1)
  where
    above : suc t.0 ≤ last.0
    above =
        let content = content_at (u ∷ us) (length (u ∷ us) - 1) last (last_behind t u us last there) in
        below_all (suc t.0) (u ∷ us) last.0 content.0 ascend.1 content.1

    by : (b : Bool) → eqb t.0 id ≡ b → cond b (Some t.1) (tile_content (u ∷ us) id) ≡ Some bytes
        → (tile_content (u ∷ us) id ≡ Some bytes → id ≤ last.0) → id ≤ last.0
    by true here found behind = omega (arith, eqb-true t.0 id here, above)
    by false other found behind = behind found

-- the zooms of the first and of the last tile are those of their contents
pub zooms_of_contents : (ts : List Tile) (low high : ℕ) → IdsAscend 0 ts → AreZooms ts low high → AreZoomsOf (tile_content ts) low high
zooms_of_contents ts low high ascend (first, last, at_first, at_last, first_is, last_is) = record {
  lowest = (let content = content_at ts 0 first at_first in (first_is.0, first_is.1, first.0, content.0, first_is.2, content.1));
  highest = (let content = content_at ts (length ts - 1) last at_last in (last_is.0, last_is.1, last.0, content.0, last_is.2, content.1));
  within = λ z x y id bytes place is. (
    zooms_ascend low first_is.0 first_is.1 first.0 z x y id first_is.2 place (from_first 0 ts first id bytes at_first ascend is),
    zooms_ascend z x y id high last_is.0 last_is.1 last.0 place last_is.2 (to_last 0 ts last id bytes at_last ascend is),
  );
}
