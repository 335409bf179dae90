-- The tiles along the curve of a zoom are all that boxes have there.
use Rattle.std.proofs.Common.{◌≡◌, ℕ, zero, suc, ◌+◌, ◌*◌, ◌<◌, ◌≤◌, ◌^◌, List, [], ◌∷◌, ◌++◌, length, Some, None, Contains}
use Rattle.std.proofs.Common.{refl, sym, ap, subst, ◌∙◌, arith, lit<}
use Rattle.std.specs.List.{slice_get, AllByRecursion}
use Rattle.std.specs.List.Sorted.{IsStrictlySortedBy}
use Rattle.std.specs.Map.{keys_of}
use Rattle.std.specs.Ordering.{nat_cmp}
use Rattle.std.specs.declared.cmp.Ordering.TheVariants.{Less}
use Rattle.std.proofs.lemmas.Bool.{lt-ltb}
use Rattle.std.proofs.lemmas.List.Elements.{All-from_recursion}
use Rattle.std.proofs.Math.Nat.{pow-le-pow_right, pow-succ'}
use Rattle.hilbert_id.specs.Curve.{curve, first_id, StandsAt, IsTileId}
use Rattle.hilbert_id.proofs.Stands.{stands_turned, stands_first}
use Rattle.hilbert_id.proofs.Positions.{one_position}
use Rattle.tile_walk.specs.Boxes.{numbers_at, IsTileOf, AreTilesOf}
use Rattle.tile_walk.specs.Inside.{ahead_of}
use Rattle.tile_walk.specs.Squares.{with_tile, tiles_along, tiles_of, left_of, weight, weights}
use Rattle.tile_walk.specs.declared.numbered.Numbered.{Numbered}
use Rattle.tile_walk.specs.declared.square.Square.{Square}
use Rattle.tile_walk.proofs.Laws.{in_front, behind}

less : (a b : ℕ) → a < b → nat_cmp a b ≡ Less
less a b lt = rw (lt-ltb a b lt) refl

-- ---- the ids ascend

keys_above : (bs : List Numbered) (id n : ℕ) (ps : List (ℕ × ℕ)) → n < id → AllByRecursion (λ k. nat_cmp n k ≡ Less) (keys_of (tiles_along bs id ps))
unfolding tiles_along
keys_above bs id n [] lt = tt
keys_above bs id n (p ∷ ps) lt = by (numbers_at bs p.0 p.1) (keys_above bs (suc id) n ps (omega arith))
  where
    by : (ns : List ℕ) → AllByRecursion (λ k. nat_cmp n k ≡ Less) (keys_of (tiles_along bs (suc id) ps))
        → AllByRecursion (λ k. nat_cmp n k ≡ Less) (keys_of (with_tile id ns (tiles_along bs (suc id) ps)))
    by [] rest = rest
    by (m ∷ ms) rest = (less n id lt, rest)

ids_ascend : (bs : List Numbered) (id : ℕ) (ps : List (ℕ × ℕ)) → IsStrictlySortedBy nat_cmp (keys_of (tiles_along bs id ps))
unfolding tiles_along IsStrictlySortedBy
ids_ascend bs id [] = tt
ids_ascend bs id (p ∷ ps) = by (numbers_at bs p.0 p.1) (ids_ascend bs (suc id) ps)
  where
    by : (ns : List ℕ) → IsStrictlySortedBy nat_cmp (keys_of (tiles_along bs (suc id) ps))
        → IsStrictlySortedBy nat_cmp (keys_of (with_tile id ns (tiles_along bs (suc id) ps)))
    by [] rest = rest
    by (m ∷ ms) rest = (keys_above bs (suc id) id ps (omega arith), rest)

-- ---- each is such a tile

each_along : (zoom : ℕ) (bs : List Numbered) (id : ℕ) (ps : List (ℕ × ℕ))
    → ((n : ℕ) (p : ℕ × ℕ) → slice_get ps n ≡ Some p → IsTileId zoom p.0 p.1 (id + n)) → AllByRecursion (IsTileOf zoom bs) (tiles_along bs id ps)
unfolding tiles_along
each_along zoom bs id [] ids = tt
each_along zoom bs id (p ∷ ps) ids = by (numbers_at bs p.0 p.1) refl (each_along zoom bs (suc id) ps later)
  where
    later : (n : ℕ) (q : ℕ × ℕ) → slice_get ps n ≡ Some q → IsTileId zoom q.0 q.1 (suc id + n)
    later n q is =
        let next : id + suc n ≡ suc id + n = omega arith in
        subst (IsTileId zoom q.0 q.1) next (ids (suc n) q is)

    here : IsTileId zoom p.0 p.1 id
    here = let start : id + 0 ≡ id = omega arith in subst (IsTileId zoom p.0 p.1) start (ids 0 p refl)

    by : (ns : List ℕ) → ns ≡ numbers_at bs p.0 p.1 → AllByRecursion (IsTileOf zoom bs) (tiles_along bs (suc id) ps)
        → AllByRecursion (IsTileOf zoom bs) (with_tile id ns (tiles_along bs (suc id) ps))
    by [] is rest = rest
    by (m ∷ ms) is rest = (record { column = p.0; row = p.1; is_id = here; numbers = is; some = omega arith }, rest)

-- ---- each tile is there

found_along : (bs : List Numbered) (id : ℕ) (ps : List (ℕ × ℕ)) (n : ℕ) (p : ℕ × ℕ) → slice_get ps n ≡ Some p → 0 < length (numbers_at bs p.0 p.1)
    → Contains (keys_of (tiles_along bs id ps)) (id + n)
unfolding tiles_along
found_along bs id [] n p is some = absurd cc
found_along bs id (q ∷ ps) zero p is some =
    let same : p ≡ q = cc in
    by (numbers_at bs q.0 q.1) (subst (λ (r : ℕ × ℕ). 0 < length (numbers_at bs r.0 r.1)) same some)
  where
    by : (ns : List ℕ) → 0 < length ns → Contains (keys_of (with_tile id ns (tiles_along bs (suc id) ps))) (id + 0)
    by [] none = absurd (omega arith)
    by (m ∷ ms) more =
        let rest = keys_of (tiles_along bs (suc id) ps) in
        let start : id ≡ id + 0 = omega arith in
        subst (Contains (id ∷ rest)) start (in_front id rest)
found_along bs id (q ∷ ps) (suc n) p is some =
    let next : suc id + n ≡ id + suc n = omega arith in
    by (numbers_at bs q.0 q.1) (subst (Contains (keys_of (tiles_along bs (suc id) ps))) next (found_along bs (suc id) ps n p is some))
  where
    by : (ns : List ℕ) → Contains (keys_of (tiles_along bs (suc id) ps)) (id + suc n)
        → Contains (keys_of (with_tile id ns (tiles_along bs (suc id) ps))) (id + suc n)
    by [] there = there
    by (m ∷ ms) there = behind id (keys_of (tiles_along bs (suc id) ps)) (id + suc n) there

pub all_tiles : (zoom : ℕ) (bs : List Numbered) → AreTilesOf zoom bs (tiles_along bs (first_id zoom) (curve zoom))
all_tiles zoom bs = record {
  ascending = ids_ascend bs (first_id zoom) (curve zoom);
  each = All-from_recursion (IsTileOf zoom bs) (tiles_along bs (first_id zoom) (curve zoom))
      (each_along zoom bs (first_id zoom) (curve zoom) (λ n p is. (n, is, refl)));
  every = λ column row id is some.
      subst (Contains (keys_of (tiles_along bs (first_id zoom) (curve zoom)))) (sym is.2)
      (found_along bs (first_id zoom) (curve zoom) is.0 (column, row) is.1 some);
}

-- ---- the first tile of a zoom

stands_origin : (k : ℕ) → StandsAt k 0 0 0
stands_origin zero = stands_first 0 0 0 refl (omega arith) (omega arith)
stands_origin (suc k) = stands_turned k 0 0 0 (stands_origin k)

pub origin_is_first : (k id : ℕ) → IsTileId k 0 0 id → id ≡ first_id k
origin_is_first k id is =
    let start = one_position k 0 0 is.0 0 is.1 (stands_origin k) in
    let at = is.2 in
    omega arith

-- ---- a walk's first square

pub whole_left : (zoom : ℕ) (bs : List Numbered) (s : Square) (none ss : List Square) → ss ≡ none ++ s ∷ [] → none ≡ [] → s.zoom ≡ zoom
    → IsTileId zoom 0 0 s.first → s.boxes.items ≡ bs → AreTilesOf zoom bs (left_of ss)
unfolding left_of tiles_of
whole_left zoom bs s none ss is start height first boxes =
    let one : ss ≡ s ∷ [] = is ∙ ap (λ l. l ++ s ∷ []) start in
    let tiles : left_of ss ≡ tiles_along bs (first_id zoom) (curve zoom) =
    ap left_of one
    ∙ ap (λ z. tiles_along s.boxes.items s.first (curve z)) height
    ∙ ap (λ i. tiles_along s.boxes.items i (curve zoom)) (origin_is_first zoom s.first first)
    ∙ ap (λ l. tiles_along l (first_id zoom) (curve zoom)) boxes in
    subst (AreTilesOf zoom bs) (sym tiles) (all_tiles zoom bs)

whole_weight : (k : ℕ) → 3 * weight k + 1 ≡ 4 ^ suc k
unfolding weight
whole_weight zero = refl
whole_weight (suc k) = omega (arith, whole_weight k, pow-succ' 4 (suc k))

pub whole_ahead : (zoom : ℕ) (s : Square) (none ss : List Square) → ss ≡ none ++ s ∷ [] → none ≡ [] → s.zoom ≡ zoom → zoom ≤ 31 → ahead_of ss None < 2 ^ 128
unfolding weights
whole_ahead zoom s none ss is start height le =
    let most : 4 ^ suc zoom ≤ 4 ^ 32 = pow-le-pow_right {n = 4} (lit< tt) {i = suc zoom} {j = 32} (omega arith) in
    let one : weights ss ≡ weight zoom + 0 = ap weights (is ∙ ap (λ l. l ++ s ∷ []) start) ∙ ap (λ z. weight z + 0) height in
    omega (arith, one, whole_weight zoom, most)
