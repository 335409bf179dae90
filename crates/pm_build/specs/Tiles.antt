-- The tiles of an archive that is to be built.
use Rattle.std.specs.Prelude.{ℕ, suc, ◌<◌, ◌≤◌, ◌^◌, List, [], ◌∷◌, length, ⊤}
use Rattle.std.specs.List.{AllByRecursion}
use Rattle.hilbert_id.specs.declared.number.TheConstants.{TILE_IDS}

-- a tile by its id and its content
abbrev pub Tile : Type 0
Tile = ℕ × List ℕ

-- each id is above the one before it, and none is below this one
abbrev pub IdsAscend : ℕ → List Tile → Type 0
IdsAscend from [] = ⊤
IdsAscend from (t ∷ ts) = (from ≤ t.0) × IdsAscend (suc t.0) ts

-- an id of a tile of zooms 0 to 31, and a content that an entry can name
abbrev pub IsTile : Tile → Type 0
IsTile t = (t.0 < TILE_IDS) × (0 < length t.1) × (length t.1 < 2 ^ 32)

-- tiles in ascending order of their ids
abbrev pub AreTiles : List Tile → Type 0
AreTiles tiles = IdsAscend 0 tiles × AllByRecursion IsTile tiles
