-- Tiles that are added one after the other.
use Rattle.std.specs.Prelude.{◌≡◌, ◌<◌, ◌≤◌, ℕ, false, List, length, All}
use Rattle.pm_build.specs.declared.limit.TheConstants.{MAX_ENTRIES}
use Rattle.pm_build.specs.Tiles.{Tile, IsTile}
use Rattle.pm_build.specs.Runs.{TileRun, AreLongestRuns}
use Rattle.pm_build.specs.Joined.{goes_on_last}

-- what contracts see of a builder: the tiles that were added, and the first bytes of the content that is added next, as far as they are put
-- ahead
pub record BuilderView : Type 0 where
  pub tiles : List Tile
  pub ahead : List ℕ

-- the tile can be added after these: its id is greater than theirs
abbrev pub CanAdd : List Tile → Tile → Type 0
CanAdd tiles t = All (λ u. u.0 < t.0) tiles × IsTile t

-- the tiles need more entries than an archive has
abbrev pub AreTooMany : List Tile → Type 0
AreTooMany tiles = (runs : List TileRun) × AreLongestRuns tiles runs × (MAX_ENTRIES < length runs)

-- the tiles need no more entries than an archive has
abbrev pub AreFew : List Tile → Type 0
AreFew tiles = (runs : List TileRun) × AreLongestRuns tiles runs × (length runs ≤ MAX_ENTRIES)

-- an archive of the tiles has this many entries: one for each of their longest runs
abbrev pub NeedEntries : List Tile → (count : ℕ) → Type 0
NeedEntries tiles count = (runs : List TileRun) × AreLongestRuns tiles runs × (count ≡ length runs)

-- the tile begins a run: it doesn't continue the last one of the tiles before it
abbrev pub BeginsRun : List Tile → Tile → Type 0
BeginsRun tiles t = (runs : List TileRun) × AreLongestRuns tiles runs × (goes_on_last runs t ≡ false)
