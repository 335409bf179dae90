-- The Hilbert curve through the tiles of a zoom, and the ids along it.
use Rattle.std.specs.Prelude.{◌≡◌, ℕ, zero, suc, ◌+◌, ◌-◌, ◌*◌, ◌/◌, ◌^◌, List, [], ◌∷◌, ◌++◌, map, Some, slice_get}

-- the quarters of a curve, in the order in which the next one goes through them
abbrev pub turned : ℕ × ℕ → ℕ × ℕ
turned p = (p.1, p.0)

abbrev pub below : ℕ → ℕ × ℕ → ℕ × ℕ
below h p = (p.0, p.1 + h)

abbrev pub across : ℕ → ℕ × ℕ → ℕ × ℕ
across h p = (p.0 + h, p.1 + h)

abbrev pub flipped : ℕ → ℕ × ℕ → ℕ × ℕ
flipped h p = (2 * h - 1 - p.1, h - 1 - p.0)

-- the columns and rows of a zoom, in the order of its curve
unfoldable pub curve : ℕ → List (ℕ × ℕ)
curve zero = (0, 0) ∷ []
curve (suc k) = map turned (curve k) ++ (map (below (2 ^ k)) (curve k) ++ (map (across (2 ^ k)) (curve k) ++ map (flipped (2 ^ k)) (curve k)))

-- the column and the row are at this position of the zoom's curve, counted from 0
abbrev pub StandsAt : ℕ → ℕ → ℕ → ℕ → Type 0
StandsAt z x y n = slice_get (curve z) n ≡ Some (x, y)

-- the id of the first tile of a zoom
abbrev pub first_id : ℕ → ℕ
first_id z = (4 ^ z - 1) / 3

-- the id of the tile at this zoom, column and row
abbrev pub IsTileId : ℕ → ℕ → ℕ → ℕ → Type 0
IsTileId z x y id = (n : ℕ) × StandsAt z x y n × (id ≡ first_id z + n)
