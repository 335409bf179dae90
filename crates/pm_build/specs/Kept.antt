-- What is kept of tiles that are added.
use Rattle.std.specs.Prelude.{◌≡◌, ◌≤◌, ℕ, List, length}
use Rattle.pm_build.specs.declared.builder.ArchiveBuilder.TheInside.{Inside}
use Rattle.pm_build.specs.declared.limit.TheConstants.{MAX_ENTRIES}
use Rattle.pm_build.specs.declared.run.Run.{Run}
use Rattle.pm_build.specs.Building.{BuilderView}
use Rattle.pm_build.specs.Different.{contents_of}
use Rattle.pm_build.specs.Firsts.{AreFirsts}
use Rattle.pm_build.specs.Indexed.{IndexView}
use Rattle.pm_build.specs.Joined.{ArePlaces, run_views}
use Rattle.pm_build.specs.Runs.{AreLongestRuns, tiles_in}
use Rattle.pm_build.specs.Tiles.{Tile, AreTiles}

-- the tiles of runs whose contents are among these
abbrev pub tiles_with : IndexView → List Run → List Tile
tiles_with v runs = tiles_in (run_views v.contents runs)

-- the runs are the longest ones of their tiles, no more than an archive has entries, and the contents are those of the tiles
pub record AreKept (v : IndexView) (runs : List Run) (addressed : ℕ) : Type 0 where
  pub tiles : AreTiles (tiles_with v runs)
  pub longest : AreLongestRuns (tiles_with v runs) (run_views v.contents runs)
  pub few : length runs ≤ MAX_ENTRIES
  pub counted : addressed ≡ length (tiles_with v runs)
  pub places : ArePlaces v.contents runs
  pub contents_are : v.contents ≡ contents_of (tiles_with v runs)
  pub firsts : AreFirsts (tiles_with v runs) v

-- ---- a builder

-- its tiles
abbrev pub tiles_kept : Inside → List Tile
tiles_kept b = tiles_with b.contents.index b.runs.items

abbrev pub builder_view : Inside → BuilderView
builder_view b = record { tiles = tiles_kept b; ahead = b.contents.ahead }

abbrev pub IsBuilder : Inside → Type 0
IsBuilder b = AreKept b.contents.index b.runs.items b.addressed
