-- The numbers of the boxes that have a tile.
use Rattle.std.proofs.Common.{◌≡◌, ℕ, zero, suc, ◌<◌, Bool, true, false, cond, List, [], ◌∷◌, length, get_or, map, refl, ap, subst, ◌∙◌, arith}
use Rattle.std.specs.List.{filter, AllByRecursion, Contains}
use Rattle.std.specs.List.Sorted.{IsStrictlySortedBy}
use Rattle.std.specs.Ordering.{nat_cmp}
use Rattle.std.specs.declared.cmp.Ordering.TheVariants.{Less}
use Rattle.std.proofs.lemmas.Bool.Decides.{nat_tests}
use Rattle.std.proofs.lemmas.List.Elements.{Contains-append_right}
use Rattle.tile_cutter.specs.declared.reach.TileRange.{TileRange}
use Rattle.tile_cutter.specs.Covered.{IsInRange}
use Rattle.tile_walk.specs.declared.numbered.Numbered.{Numbered}
use Rattle.tile_walk.specs.Boxes.{has, numbers_at}

-- the numbers of all boxes
abbrev numbers : List Numbered → List ℕ
numbers bs = map (λ b. b.number) bs

-- whether a box has a tile
abbrev covers : ℕ → ℕ → Numbered → Bool
covers column row b = has b.range column row

-- ---- they ascend where those of all boxes do

numbers_above : (n : ℕ) (bs : List Numbered) (column row : ℕ) → AllByRecursion (λ k. nat_cmp n k ≡ Less) (numbers bs)
    → AllByRecursion (λ k. nat_cmp n k ≡ Less) (numbers_at bs column row)
numbers_above n [] column row all = tt
numbers_above n (b ∷ bs) column row all = by (covers column row b) (numbers_above n bs column row all.1)
  where
    by : (t : Bool) → AllByRecursion (λ k. nat_cmp n k ≡ Less) (numbers_at bs column row)
        → AllByRecursion (λ k. nat_cmp n k ≡ Less) (numbers (cond t (b ∷ filter (covers column row) bs) (filter (covers column row) bs)))
    by true rest = (all.0, rest)
    by false rest = rest

pub numbers_ascend : (bs : List Numbered) (column row : ℕ) → IsStrictlySortedBy nat_cmp (map (λ b. b.number) bs)
    → IsStrictlySortedBy nat_cmp (numbers_at bs column row)
unfolding IsStrictlySortedBy
numbers_ascend [] column row up = tt
numbers_ascend (b ∷ bs) column row up = by (covers column row b) (numbers_ascend bs column row up.1)
  where
    by : (t : Bool) → IsStrictlySortedBy nat_cmp (numbers_at bs column row)
        → IsStrictlySortedBy nat_cmp (numbers (cond t (b ∷ filter (covers column row) bs) (filter (covers column row) bs)))
    by true rest = (numbers_above b.number bs column row up.0, rest)
    by false rest = rest

-- ---- which numbers they are

pub has_in_range : (r : TileRange) (column row : ℕ) → IsInRange r column row → has r column row ≡ true
has_in_range r column row h =
    let left = h.left in
    let right = h.right in
    let top = h.top in
    let bottom = h.bottom in
    grind (arith, nat_tests)

pub in_front : {X : Type 0} (x : X) (xs : List X) → Contains (x ∷ xs) x
in_front x xs = (0, omega arith, refl)

pub behind : {X : Type 0} (x : X) (xs : List X) (y : X) → Contains xs y → Contains (x ∷ xs) y
behind x xs y h = Contains-append_right (x ∷ []) xs y h

pub number_stands : (bs : List Numbered) (b : Numbered) (column row : ℕ) → Contains bs b → IsInRange b.range column row
    → Contains (numbers_at bs column row) b.number
number_stands [] b column row h inside = absurd (omega (arith, h.1))
number_stands (a ∷ bs) b column row h inside = by (covers column row a) refl (λ c. number_stands bs b column row c inside) h.0 h.1 h.2
  where
    by : (t : Bool) → covers column row a ≡ t → (Contains bs b → Contains (numbers_at bs column row) b.number) → (i : ℕ) → i < length (a ∷ bs)
        → get_or (a ∷ bs) i b ≡ b → Contains (numbers (cond t (a ∷ filter (covers column row) bs) (filter (covers column row) bs))) b.number
    by true is more zero lt same =
        subst (λ n. Contains (a.number ∷ numbers_at bs column row) n) (ap (λ k. k.number) same) (in_front a.number (numbers_at bs column row))
    by true is more (suc i) lt same = behind a.number (numbers_at bs column row) b.number (more (i, omega arith, same))
    by false is more zero lt same =
        let there : covers column row a ≡ true = ap (covers column row) same ∙ has_in_range b.range column row inside in
        absurd cc
    by false is more (suc i) lt same = more (i, omega arith, same)
