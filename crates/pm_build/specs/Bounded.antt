-- How long an archive is at most.
use Rattle.pm_header.specs.declared.header.TheConstants.{HEADER_BYTES}
use Rattle.std.specs.Prelude.{ℕ, ◌+◌, ◌*◌, ◌≤◌, List, length, map, Contains}
use Rattle.std.specs.List.{AllByRecursion, concat}
use Rattle.pm_build.specs.declared.limit.TheConstants.{MAX_ENTRIES}
use Rattle.pm_build.specs.Placed.{AreDifferent}
use Rattle.pm_build.specs.Runs.{TileRun, AreLongestRuns}
use Rattle.pm_build.specs.Tiles.{Tile}

-- the tiles need no more entries than an archive has, and the size is at most that of a header, the metadata, 64 bytes for each run, and
-- each different content once
abbrev pub IsSize : List Tile → (metadata : List ℕ) → (size : ℕ) → Type 0
IsSize tiles metadata size =
    (runs : List TileRun) × (contents : List (List ℕ)) × AreLongestRuns tiles runs × (length runs ≤ MAX_ENTRIES) × AreDifferent contents
    × AllByRecursion (λ c. Contains (map (λ r. r.content) runs) c) contents
    × (size ≤ HEADER_BYTES + length metadata + 64 * length runs + length (concat contents))
