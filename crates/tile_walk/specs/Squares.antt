-- The tiles of boxes along the curve, and those of the squares that a walk keeps.
use Rattle.std.specs.Prelude.{ℕ, zero, suc, ◌+◌, ◌-◌, ◌*◌, ◌^◌, List, [], ◌∷◌, ◌++◌, map}
use Rattle.hilbert_id.specs.Curve.{curve}
use Rattle.tile_walk.specs.Boxes.{numbers_at}
use Rattle.tile_walk.specs.Quarters.{order_of, placed}
use Rattle.tile_walk.specs.declared.numbered.Numbered.{Numbered}
use Rattle.tile_walk.specs.declared.quarter.Quarter.{Quarter}
use Rattle.tile_walk.specs.declared.square.Square.{Square}

-- a tile before others, unless it has no numbers
abbrev pub with_tile : ℕ → List ℕ → List (ℕ × List ℕ) → List (ℕ × List ℕ)
with_tile id [] ts = ts
with_tile id (n ∷ ns) ts = (id, n ∷ ns) ∷ ts

-- the tiles at these columns and rows that boxes have, the first of them with this id, the next one with the next
unfoldable pub tiles_along : List Numbered → ℕ → List (ℕ × ℕ) → List (ℕ × List ℕ)
tiles_along bs id [] = []
tiles_along bs id (p ∷ ps) = with_tile id (numbers_at bs p.0 p.1) (tiles_along bs (suc id) ps)

-- the tiles of a square
unfoldable pub tiles_of : Square → List (ℕ × List ℕ)
tiles_of s = tiles_along s.boxes.items s.first (curve s.zoom)

-- the tiles of a quarter of a square
unfoldable pub tiles_in : Quarter → Square → List (ℕ × List ℕ)
tiles_in q s =
    tiles_along s.boxes.items (s.first + order_of q * 4 ^ (s.zoom - 1)) (map (placed q (2 ^ (s.zoom - 1))) (curve (s.zoom - 1)))

-- the tiles of squares, of which the last is the next one
unfoldable pub left_of : List Square → List (ℕ × List ℕ)
left_of [] = []
left_of (s ∷ ss) = left_of ss ++ tiles_of s

-- a measure of a square: more than that of its four quarters together
unfoldable pub weight : ℕ → ℕ
weight zero = 1
weight (suc k) = 4 * weight k + 1

unfoldable pub weights : List Square → ℕ
weights [] = 0
weights (s ∷ ss) = weight s.zoom + weights ss
