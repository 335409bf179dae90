-- The content of a tile that is added.
use Rattle.std.specs.Prelude.{◌≡◌, ℕ, List, [], ⊤}
use Rattle.pm_build.specs.declared.tile_content.TileContent.{TileContent}
use Rattle.pm_build.specs.declared.tile_content.TileContent.TheVariants as contents

-- the bytes of the content of a tile, if these are ahead
abbrev pub bytes_of : TileContent → (ahead : List ℕ) → List ℕ
bytes_of (contents.Given bytes) ahead = bytes.now
bytes_of contents.Ahead ahead = ahead

-- where bytes are given, none are ahead
abbrev pub IsApart : TileContent → (ahead : List ℕ) → Type 0
IsApart (contents.Given bytes) ahead = ahead ≡ []
IsApart contents.Ahead ahead = ⊤
