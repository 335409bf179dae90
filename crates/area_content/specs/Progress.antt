-- What a step of an archive in the making did.
use Rattle.std.specs.Prelude.{ℕ, ⊤}
use Rattle.area_content.specs.declared.archive.Progress.{Progress}
use Rattle.area_content.specs.declared.archive.Progress.TheVariants.{Part, Tile, Over}

-- this is true if tiles may be left
abbrev pub IfGoing : Type 0 → Progress → Type 0
IfGoing P Part = P
IfGoing P Tile = P
IfGoing P Over = ⊤

-- how many tiles it added
abbrev pub tiles_in : Progress → ℕ
tiles_in Part = 0
tiles_in Tile = 1
tiles_in Over = 0
