-- The tiles of boxes along parts of the curve.
use Rattle.std.proofs.Common.{◌≡◌, ℕ, zero, suc, ◌+◌, ◌-◌, ◌*◌, ◌^◌, ◌<◌, ◌≤◌, ◌==◌, Bool, true, false, List, [], ◌∷◌, ◌++◌, length, get_or, map, take}
use Rattle.std.proofs.Common.{Some, None, refl, sym, ap, subst, ◌∙◌, append_assoc, arith}
use Rattle.std.specs.List.{AllByRecursion, slice_get}
use Rattle.std.proofs.lemmas.Bool.Decides.{nat_tests}
use Rattle.std.proofs.lemmas.List.{append-nil, nil_from_length}
use Rattle.std.proofs.lemmas.List.Elements.{recursion_from_All}
use Rattle.std.proofs.lemmas.Option.{slice_get-get_or}
use Rattle.hilbert_id.specs.Curve.{turned, below, across, flipped, curve}
use Rattle.hilbert_id.proofs.Positions.{in_square}
use Rattle.hilbert_id.proofs.Stands.{len_of}
use Rattle.tile_walk.specs.Boxes.{numbers_at}
use Rattle.tile_walk.specs.Quarters.{order_of, placed, ArePlaced}
use Rattle.tile_walk.specs.Squares.{with_tile, tiles_along, tiles_of, tiles_in, left_of, weight, weights}
use Rattle.tile_walk.specs.declared.numbered.Numbered.{Numbered}
use Rattle.tile_walk.specs.declared.quarter.Quarter.{Quarter}
use Rattle.tile_walk.specs.declared.quarter.Quarter.TheVariants.{First, Second, Third, Fourth}
use Rattle.tile_walk.specs.declared.square.Square.{Square}

with_tile-append : (id : ℕ) (ns : List ℕ) (ts us : List (ℕ × List ℕ)) → with_tile id ns (ts ++ us) ≡ with_tile id ns ts ++ us
with_tile-append id [] ts us = refl
with_tile-append id (n ∷ ns) ts us = refl

-- ---- of parts

along-append : (bs : List Numbered) (id : ℕ) (ps qs : List (ℕ × ℕ)) → tiles_along bs id (ps ++ qs) ≡ tiles_along bs id ps ++ tiles_along bs (id + length ps) qs
unfolding tiles_along
along-append bs id [] qs = let none : id + 0 ≡ id = omega arith in rw none refl
along-append bs id (p ∷ ps) qs =
    let next : id + suc (length ps) ≡ suc id + length ps = omega arith in
    rw next
    (ap (with_tile id (numbers_at bs p.0 p.1)) (along-append bs (suc id) ps qs)
    ∙ with_tile-append id (numbers_at bs p.0 p.1) (tiles_along bs (suc id) ps) (tiles_along bs (suc id + length ps) qs))

along_parts : (bs : List Numbered) (id after : ℕ) (ps qs : List (ℕ × ℕ)) → after ≡ id + length ps
    → tiles_along bs id (ps ++ qs) ≡ tiles_along bs id ps ++ tiles_along bs after qs
along_parts bs id after ps qs e = rw e (along-append bs id ps qs)

along_none : (id : ℕ) (ps : List (ℕ × ℕ)) → tiles_along [] id ps ≡ []
unfolding tiles_along
along_none id [] = refl
along_none id (p ∷ ps) = along_none (suc id) ps

-- ---- in other columns and rows

along_map : (g : ℕ × ℕ → ℕ × ℕ) (bs cs : List Numbered) (id : ℕ) (ps : List (ℕ × ℕ))
    → AllByRecursion (λ p. numbers_at cs p.0 p.1 ≡ numbers_at bs (g p).0 (g p).1) ps → tiles_along cs id ps ≡ tiles_along bs id (map g ps)
unfolding tiles_along
along_map g bs cs id [] all = refl
along_map g bs cs id (p ∷ ps) all =
    ap (λ ns. with_tile id ns (tiles_along cs (suc id) ps)) all.0
    ∙ ap (with_tile id (numbers_at bs (g p).0 (g p).1)) (along_map g bs cs (suc id) ps all.1)

module _ (P : ℕ → ℕ → Type 0) where
  -- what holds within a square holds along its curve
  pub along_square : (k : ℕ) → ((column row : ℕ) → column < 2 ^ k → row < 2 ^ k → P column row) → AllByRecursion (λ p. P p.0 p.1) (curve k)
  along_square k all = recursion_from_All (λ p. P p.0 p.1) (curve k) (λ n d lt.
      let p = get_or (curve k) n d in
      let inside = in_square k p.0 p.1 n (slice_get-get_or (curve k) n d lt) in
      all p.0 p.1 inside.0 inside.1)

-- ---- a square and its quarters

pub placed_quarter : (q : Quarter) (s : Square) (bs cs : List Numbered) (order tiles half : ℕ) → bs ≡ s.boxes.items → order ≡ order_of q
    → tiles ≡ 4 ^ (s.zoom - 1) → half ≡ 2 ^ (s.zoom - 1) → ArePlaced q half bs cs → tiles_along cs (s.first + order * tiles) (curve (s.zoom - 1)) ≡ tiles_in q s
unfolding tiles_in
placed_quarter q s bs cs order tiles half boxes quarter each side there =
    let k = s.zoom - 1 in
    let same : ArePlaced q (2 ^ k) s.boxes.items cs = subst (λ h. ArePlaced q h s.boxes.items cs) side (subst (λ l. ArePlaced q half l cs) boxes there) in
    ap (λ i. tiles_along cs i (curve k)) (ap (λ o. s.first + o * tiles) quarter ∙ ap (λ t. s.first + order_of q * t) each)
    ∙ along_map (placed q (2 ^ k)) s.boxes.items cs (s.first + order_of q * 4 ^ k) (curve k)
    (along_square (λ x y. numbers_at cs x y ≡ numbers_at s.boxes.items (placed q (2 ^ k) (x, y)).0 (placed q (2 ^ k) (x, y)).1) k same)

abbrev part : Quarter → List Numbered → ℕ → ℕ → List (ℕ × List ℕ)
part q bs id k = tiles_along bs (id + order_of q * 4 ^ k) (map (placed q (2 ^ k)) (curve k))

along_quarters : (bs : List Numbered) (id k : ℕ)
    → tiles_along bs id (curve (suc k)) ≡ part First bs id k ++ (part Second bs id k ++ (part Third bs id k ++ part Fourth bs id k))
unfolding curve
along_quarters bs id k =
    let c = curve k in
    let h = 2 ^ k in
    let start : id ≡ id + 0 * 4 ^ k = omega arith in
    ap (λ i. tiles_along bs i (map turned c ++ (map (below h) c ++ (map (across h) c ++ map (flipped h) c)))) start
    ∙ along_parts bs (id + 0 * 4 ^ k) (id + 1 * 4 ^ k) (map turned c) (map (below h) c ++ (map (across h) c ++ map (flipped h) c))
    (omega (arith, len_of k turned))
    ∙ ap (λ t. part First bs id k ++ t)
    (along_parts bs (id + 1 * 4 ^ k) (id + 2 * 4 ^ k) (map (below h) c) (map (across h) c ++ map (flipped h) c) (omega (arith, len_of k (below h)))
    ∙ ap (λ t. part Second bs id k ++ t)
    (along_parts bs (id + 2 * 4 ^ k) (id + 3 * 4 ^ k) (map (across h) c) (map (flipped h) c) (omega (arith, len_of k (across h)))))

pub of_quarters : (s : Square) → 0 < s.zoom → tiles_of s ≡ tiles_in First s ++ (tiles_in Second s ++ (tiles_in Third s ++ tiles_in Fourth s))
unfolding tiles_of tiles_in
of_quarters s some =
    let height : s.zoom ≡ suc (s.zoom - 1) = omega arith in
    ap (λ z. tiles_along s.boxes.items s.first (curve z)) height ∙ along_quarters s.boxes.items s.first (s.zoom - 1)

-- a square of one tile
pub of_one : (s : Square) (bs : List Numbered) (ns : List ℕ) → s.zoom ≡ 0 → bs ≡ s.boxes.items → ns ≡ numbers_at bs 0 0 → tiles_of s ≡ with_tile s.first ns []
unfolding tiles_of tiles_along curve
of_one s bs ns none boxes numbers =
    ap (λ z. tiles_along s.boxes.items s.first (curve z)) none
    ∙ ap (λ l. with_tile s.first l []) (sym (numbers ∙ ap (λ l. numbers_at l 0 0) boxes))

-- a square of no boxes
pub of_none : (s : Square) → s.boxes.items ≡ [] → tiles_of s ≡ []
unfolding tiles_of
of_none s none = ap (λ bs. tiles_along bs s.first (curve s.zoom)) none ∙ along_none s.first (curve s.zoom)

-- ---- squares, of which the last is the next one

pub left-append : (ss us : List Square) → left_of (ss ++ us) ≡ left_of us ++ left_of ss
unfolding left_of
left-append [] us = sym (append-nil (left_of us))
left-append (s ∷ ss) us = ap (λ t. t ++ tiles_of s) (left-append ss us) ∙ append_assoc (left_of us) (left_of ss) (tiles_of s)

pub left_last : (ss : List Square) (s : Square) → left_of (ss ++ s ∷ []) ≡ tiles_of s ++ left_of ss
unfolding left_of
left_last ss s = left-append ss (s ∷ [])

pub weights-append : (ss us : List Square) → weights (ss ++ us) ≡ weights ss + weights us
unfolding weights
weights-append [] us = omega arith
weights-append (s ∷ ss) us = omega (arith, weights-append ss us)

pub weights_last : (ss : List Square) (s : Square) → weights (ss ++ s ∷ []) ≡ weights ss + weight s.zoom
unfolding weights
weights_last ss s = omega (arith, weights-append ss (s ∷ []))

pub weight_some : (k : ℕ) → 0 < weight k
unfolding weight
weight_some zero = omega arith
weight_some (suc k) = omega arith

pub weight_next : (k : ℕ) → 0 < k → weight k ≡ 4 * weight (k - 1) + 1
unfolding weight
weight_next k some =
    let height : k ≡ suc (k - 1) = omega arith in
    ap weight height

-- ---- the last square

split_end : {X : Type 0} (xs : List X) (x : X) (m : ℕ) → slice_get xs m ≡ Some x → length xs ≡ suc m → xs ≡ take m xs ++ x ∷ []
split_end [] x m is len = absurd cc
split_end (a ∷ xs) x zero is len =
    let none : xs ≡ [] = nil_from_length xs (omega arith) in
    let same : a ≡ x = cc in
    cc
split_end (a ∷ xs) x (suc m) is len = ap (λ l. a ∷ l) (split_end xs x m is (omega arith))

-- by what `last` gives
pub split_last : {X : Type 0} (xs ys : List X) (x : X) (n : ℕ) → ys ≡ xs → length ys ≡ n → Some x ≡ slice_get ys (length ys - 1)
    → xs ≡ take (n - 1) xs ++ x ∷ []
split_last {X = X} xs ys x n same len is =
    subst (λ l. l ≡ take (n - 1) l ++ x ∷ []) same (go ys len (sym is))
  where
    go : (zs : List X) → length zs ≡ n → slice_get zs (length zs - 1) ≡ Some x → zs ≡ take (n - 1) zs ++ x ∷ []
    go [] size at = absurd cc
    go (z ∷ zs) size at =
        let m : length (z ∷ zs) - 1 ≡ length zs = omega arith in
        let k : n - 1 ≡ length zs = omega arith in
        rw k (split_end (z ∷ zs) x (length zs) (rw m at at) refl)

pub no_last : {X : Type 0} (xs ys : List X) → ys ≡ xs → None ≡ slice_get ys (length ys - 1) → xs ≡ []
no_last {X = X} xs ys same is = subst (λ l. l ≡ []) same (go ys (sym is))
  where
    go : (zs : List X) → slice_get zs (length zs - 1) ≡ None → zs ≡ []
    go [] at = refl
    go (z ∷ zs) at = absurd (some (z ∷ zs) (length zs) (omega arith) (let m : length (z ∷ zs) - 1 ≡ length zs = omega arith in rw m at at))
      where
        some : (ws : List X) (m : ℕ) → m < length ws → slice_get ws m ≡ None → ⊥
        some [] m lt none = omega arith
        some (w ∷ ws) zero lt none = cc
        some (w ∷ ws) (suc m) lt none = some ws m (omega arith) none

module _ (old new : List Square) (s : Square) (n : ℕ) (last : old ≡ take (n - 1) old ++ s ∷ []) where
  -- without it the others are left
  pub taken_left : (ts : List (ℕ × List ℕ)) → new ≡ take (n - 1) old → tiles_of s ≡ ts → left_of old ≡ ts ++ left_of new
  taken_left ts rest tiles =
      ap left_of last ∙ left_last (take (n - 1) old) s ∙ ap (λ t. t ++ left_of (take (n - 1) old)) tiles ∙ ap (λ l. ts ++ left_of l) (sym rest)

  pub taken_lighter : new ≡ take (n - 1) old → weights new < weights old
  taken_lighter rest =
      omega (arith, ap weights rest, ap weights last, weights_last (take (n - 1) old) s, weight_some s.zoom)

  -- others with its tiles in its place leave the same tiles
  pub replaced_left : (others : List Square) → new ≡ take (n - 1) old ++ others → left_of others ≡ tiles_of s → left_of new ≡ left_of old
  replaced_left others is tiles =
      ap left_of is ∙ left-append (take (n - 1) old) others ∙ ap (λ t. t ++ left_of (take (n - 1) old)) tiles
      ∙ sym (ap left_of last ∙ left_last (take (n - 1) old) s)

  pub replaced_lighter : (others : List Square) → new ≡ take (n - 1) old ++ others → weights others < weight s.zoom → weights new < weights old
  replaced_lighter others is less =
      omega (arith, ap weights is, ap weights last, weights-append (take (n - 1) old) others, weights_last (take (n - 1) old) s)

zero_from : (n : ℕ) (b : Bool) → b ≡ (n == 0) → b ≡ true → n ≡ 0
zero_from n b is zeros = grind (arith, nat_tests)

some_from : (n : ℕ) (b : Bool) → b ≡ (n == 0) → b ≡ false → 0 < n
some_from n b is more = grind (arith, nat_tests)

-- by what `is_empty` gives
pub empty : {X : Type 0} (xs : List X) (n : ℕ) (b : Bool) → n ≡ length xs → b ≡ (n == 0) → b ≡ true → xs ≡ []
empty xs n b size is zeros = nil_from_length xs (omega (arith, zero_from n b is zeros, size))

pub filled : {X : Type 0} (xs : List X) (n : ℕ) (b : Bool) → n ≡ length xs → b ≡ (n == 0) → b ≡ false → 0 < length xs
filled xs n b size is more = omega (arith, some_from n b is more, size)

pub with_some : (id : ℕ) (ns : List ℕ) (ts : List (ℕ × List ℕ)) → 0 < length ns → with_tile id ns ts ≡ (id, ns) ∷ ts
with_some id [] ts some = absurd (omega arith)
with_some id (n ∷ ns) ts some = refl

-- ---- a square's quarters, pushed one after the other

module _ (s : Square) (some : 0 < s.zoom) (a b c d e : List Square) (none : a ≡ []) where
  pub four_left : left_of b ≡ tiles_in Fourth s ++ left_of a → left_of c ≡ tiles_in Third s ++ left_of b → left_of d ≡ tiles_in Second s ++ left_of c
      → left_of e ≡ tiles_in First s ++ left_of d → left_of e ≡ tiles_of s
  unfolding left_of
  four_left fourth third second first =
      let start : left_of a ≡ [] = ap left_of none in
      first ∙ ap (λ t. tiles_in First s ++ t)
      (second ∙ ap (λ t. tiles_in Second s ++ t)
      (third ∙ ap (λ t. tiles_in Third s ++ t) (fourth ∙ ap (λ t. tiles_in Fourth s ++ t) start ∙ append-nil (tiles_in Fourth s))))
      ∙ sym (of_quarters s some)

  pub four_lighter : weights b ≤ weights a + weight (s.zoom - 1) → weights c ≤ weights b + weight (s.zoom - 1) → weights d ≤ weights c + weight (s.zoom - 1)
      → weights e ≤ weights d + weight (s.zoom - 1) → weights e < weight s.zoom
  unfolding weights
  four_lighter fourth third second first =
      let start : weights a ≡ 0 = ap weights none in
      omega (arith, weight_next s.zoom some)
