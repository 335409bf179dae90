-- The parts of a path on the tiles' route.
use Rattle.std.specs.Prelude.{ℕ, ◌+◌, ◌-◌, List, [], ◌∷◌, length, drop, codes}
use Rattle.matchit.specs.Params.{next_at, part_of}
use Rattle.matchit.specs.Seek.{segment}
use Rattle.tile_routes.specs.declared.routes.Route.{Route}
use Rattle.tile_routes.specs.declared.routes.Route.TheVariants.{Tile}

-- where the zoom begins: five bytes on, after `/map/`
abbrev pub zoom_at : List ℕ → ℕ
zoom_at path = next_at (length path) (next_at (length path) (next_at (length path) (next_at (length path) (next_at (length path) 0))))

-- where a part ends that begins at a place and has a slash behind it
abbrev pub part_end : List ℕ → ℕ → ℕ
part_end path at = at + length (segment (drop at path)) - 1

abbrev pub column_at : List ℕ → ℕ
column_at path = next_at (length path) (part_end path (zoom_at path))

abbrev pub row_at : List ℕ → ℕ
row_at path = next_at (length path) (part_end path (column_at path))

-- each name of the route with its part of the path
abbrev pub tile_parts : List ℕ → List (List ℕ × List ℕ)
tile_parts path =
    (codes "z", part_of path (zoom_at path) (part_end path (zoom_at path)))
    ∷ (codes "x", part_of path (column_at path) (part_end path (column_at path)))
    ∷ (codes "y", part_of path (row_at path) (length path))
    ∷ []

-- a statement of the tiles' route alone
abbrev pub IfTile : Route → Type 0 → Type 0
IfTile Tile P = P
IfTile other P = Unit {0}
