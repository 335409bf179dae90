-- What an archive is built from, and its bytes.
use Rattle.std.specs.Prelude.{ℕ, List, [], ◌∷◌, ◌++◌, Option, Some, None, if◌then◌else◌, nat_eq}
use Rattle.pm_build.specs.declared.built.BuiltArchive.{BuiltArchive}
use Rattle.pm_build.specs.Tiles.{Tile}

-- the content of an id among the tiles
abbrev pub tile_content : List Tile → ℕ → Option (List ℕ)
tile_content [] id = None
tile_content (t ∷ ts) id = if nat_eq t.0 id then Some t.1 else tile_content ts id

-- the bytes of an archive that was built
abbrev pub archive_bytes : BuiltArchive → List ℕ
archive_bytes a = a.front.items ++ a.contents.items
