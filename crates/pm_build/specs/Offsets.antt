-- The entries of runs, by the offsets of their contents.
use Rattle.std.specs.Prelude.{◌≡◌, ℕ, ◌+◌, ◌<◌, ◌^◌, List, [], ◌∷◌, length, map, Some, ⊤, Contains}
use Rattle.std.specs.List.{AllByRecursion, concat}
use Rattle.pm_directory.specs.Counts.{span_of}
use Rattle.pm_directory.specs.declared.entry.DirectoryEntry.{DirectoryEntry}
use Rattle.pm_build.specs.Different.{offset_from}
use Rattle.pm_build.specs.Runs.{TileRun}
use Rattle.pm_build.specs.Placed.{AreDifferent}
use Rattle.pm_build.specs.Clustered.{end_of, IsClustered}

-- the offset and the length of each
abbrev pub spans_from : ℕ → List (List ℕ) → List (ℕ × ℕ)
spans_from from [] = []
spans_from from (c ∷ cs) = (from, length c) ∷ spans_from (from + length c) cs

-- the entry of a run
pub record IsPlaced (contents : List (List ℕ)) (r : TileRun) (e : DirectoryEntry) : Type 0 where
  pub id_is : e.id ≡ r.first
  pub run_is : e.run ≡ r.count
  pub length_is : e.length ≡ length r.content
  pub offset_is : offset_from 0 contents r.content ≡ Some e.offset
  pub offset_fits : e.offset < 2 ^ 64

abbrev pub EachPlaced : List (List ℕ) → List TileRun → List DirectoryEntry → Type 0
EachPlaced contents [] [] = ⊤
EachPlaced contents [] (e ∷ es) = ⊥
EachPlaced contents (r ∷ rs) [] = ⊥
EachPlaced contents (r ∷ rs) (e ∷ es) = IsPlaced contents r e × EachPlaced contents rs es

-- the entries are those of the runs, whose contents these are, each once
pub record ArePlacedRuns (runs : List TileRun) (entries : List DirectoryEntry) (contents : List (List ℕ)) : Type 0 where
  pub each : EachPlaced contents runs entries
  pub different : AreDifferent contents
  pub used : AllByRecursion (λ c. Contains (map (λ r. r.content) runs) c) contents
  pub clustered : IsClustered 0 entries
  pub ends : end_of 0 entries ≡ length (concat contents)
  pub reached : AllByRecursion (λ p. Contains (map span_of entries) p) (spans_from 0 contents)
