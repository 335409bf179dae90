-- Runs as entries, whose contents are stored once.
use Rattle.std.specs.Prelude.{◌≡◌, ◌≢◌, ℕ, ◌+◌, ◌≤◌, List, [], ◌∷◌, length, map, slice_range, ⊤, Contains}
use Rattle.std.specs.List.{concat}
use Rattle.pm_directory.specs.Counts.{contents_of}
use Rattle.std.specs.List.{AllByRecursion}
use Rattle.pm_directory.specs.declared.entry.DirectoryEntry.{DirectoryEntry}
use Rattle.pm_directory.specs.Directory.{IsAscending, IsEntry}
use Rattle.pm_build.specs.Tiles.{Tile}
use Rattle.pm_build.specs.Runs.{TileRun, AreLongestRuns}

-- the entry names this run and where its content is stored
pub record Names (bytes : List ℕ) (r : TileRun) (e : DirectoryEntry) : Type 0 where
  pub id_is : e.id ≡ r.first
  pub run_is : e.run ≡ r.count
  pub length_is : e.length ≡ length r.content
  pub inside : e.offset + e.length ≤ length bytes
  pub content_is : slice_range bytes e.offset (e.offset + e.length) ≡ r.content

abbrev pub EachNames : List ℕ → List TileRun → List DirectoryEntry → Type 0
EachNames bytes [] [] = ⊤
EachNames bytes [] (e ∷ es) = ⊥
EachNames bytes (r ∷ rs) [] = ⊥
EachNames bytes (r ∷ rs) (e ∷ es) = Names bytes r e × EachNames bytes rs es

-- no two of them are equal
abbrev pub AreDifferent : List (List ℕ) → Type 0
AreDifferent [] = ⊤
AreDifferent (c ∷ cs) = AllByRecursion (λ d. d ≢ c) cs × AreDifferent cs

-- The entries name the longest runs of the tiles, whose contents are stored one after the other, each once.
pub record ArePlaced (tiles : List Tile) (entries : List DirectoryEntry) (contents : List (List ℕ)) : Type 0 where
  pub runs : List TileRun
  pub longest : AreLongestRuns tiles runs
  pub named : EachNames (concat contents) runs entries
  pub ascending : IsAscending entries
  pub each : AllByRecursion IsEntry entries
  pub different : AreDifferent contents
  pub used : AllByRecursion (λ c. Contains (map (λ r. r.content) runs) c) contents
  pub stored : AllByRecursion (λ r. Contains contents r.content) runs
  pub counted : contents_of entries ≡ length contents
