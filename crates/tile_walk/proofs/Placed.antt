-- Boxes that are placed in the quarters of a square one after the other.
use Rattle.std.proofs.Common.{◌≡◌, ℕ, ◌+◌, ◌-◌, ◌^◌, ◌<◌, ◌≤◌, false, List, [], ◌∷◌, ◌++◌, length, map, take, drop, get_or}
use Rattle.std.proofs.Common.{refl, sym, ap, subst, ◌∙◌, append_assoc, append-nil, arith}
use Rattle.std.specs.Prelude.{filter}
use Rattle.std.proofs.Math.Seq.{take-add}
use Rattle.std.proofs.lemmas.List.{take_more}
use Rattle.std.proofs.lemmas.List.Elements.{filter-append}
use Rattle.tile_walk.specs.Boxes.{has, numbers_at}
use Rattle.tile_walk.specs.Quarters.{placed, IsApart, ArePlaced}
use Rattle.tile_walk.specs.declared.numbered.Numbered.{Numbered}
use Rattle.tile_walk.specs.declared.quarter.Quarter.{Quarter}
use Rattle.tile_walk.specs.declared.cut.Cut.{Cut}
use Rattle.tile_walk.specs.declared.square.Square.{Square}
use Rattle.tile_walk.specs.Cut.{AreInQuarters, IsCut}

-- a box without tiles at a column and a row
numbers_beside : (bs : List Numbered) (b : Numbered) (column row : ℕ) → has b.range column row ≡ false
    → numbers_at (bs ++ b ∷ []) column row ≡ numbers_at bs column row
numbers_beside bs b column row none =
    let here = λ (n : Numbered). has n.range column row in
    ap (map (λ (n : Numbered). n.number))
    (filter-append here bs (b ∷ []) ∙ ap (λ (end : List Numbered). filter here bs ++ end) (rw none refl) ∙ append-nil (filter here bs))

-- a box without tiles in a quarter
pub apart_placed : (q : Quarter) (half : ℕ) (bs cs : List Numbered) (b : Numbered) → IsApart q half b.range → ArePlaced q half bs cs
    → ArePlaced q half (bs ++ b ∷ []) cs
apart_placed q half bs cs b apart are column row left up =
    are column row left up ∙ sym (numbers_beside bs b (placed q half (column, row)).0 (placed q half (column, row)).1 (apart column row left up))

-- one box more of those that are placed
pub one_more : (half : ℕ) (start xs : List Numbered) (i : ℕ) (d : Numbered) (c : Cut) → i < length xs
    → AreInQuarters half ((start ++ take i xs) ++ get_or xs i d ∷ []) c → AreInQuarters half (start ++ take (i + 1) xs) c
one_more half start xs i d c lt placed =
    subst (λ (bs : List Numbered). AreInQuarters half bs c)
    (append_assoc start (take i xs) (get_or xs i d ∷ []) ∙ ap (λ (bs : List Numbered). start ++ bs) (sym (take_more xs i d lt))) placed

-- the next boxes of a square are placed
pub more_cut : (s : Square) (boxes part : List Numbered) (old new : Cut) (start count len : ℕ) → start ≡ old.placed → new.placed ≡ start + count
    → boxes ≡ s.boxes.items → len ≡ length s.boxes.items → count ≤ len - start → part ≡ take count (drop start boxes) → IsCut s old → new.placed < 2 ^ 64
    → AreInQuarters (2 ^ (s.zoom - 1)) (take old.placed s.boxes.items ++ part) new → IsCut s new
more_cut s boxes part old new start count len from to same size within is cut few placed = record {
  some = cut.some;
  few = few;
  within = let before = cut.within in omega (arith, before, from, to, size, within);
  quarters = subst (λ (bs : List Numbered). AreInQuarters (2 ^ (s.zoom - 1)) bs new)
      (ap (λ (n : ℕ). take n s.boxes.items ++ part) (sym from)
      ∙ ap (λ (bs : List Numbered). take start s.boxes.items ++ bs) (is ∙ ap (λ (bs : List Numbered). take count (drop start bs)) same)
      ∙ sym (take-add start count s.boxes.items)
      ∙ ap (λ (n : ℕ). take n s.boxes.items) (sym to))
      placed;
}
