-- What the index by boxes has of a map, and which numbers a tile needs.
use Rattle.std.specs.Prelude.{ℕ, List, Option, map, min, All, Contains, IsSome, IfSome}
use Rattle.std.specs.Option.{option_map_or}
use Rattle.std.specs.Ordering.{nat_cmp}
use Rattle.std.specs.List.Sorted.{IsPermutation, IsStrictlySortedBy}
use Rattle.box_index.specs.declared.entry.IndexEntry.{IndexEntry}
use Rattle.box_index.specs.Index.{IndexView}
use Rattle.feature_model.specs.Data.{FeatureData}
use Rattle.tile_cutter.specs.Cut.{feature_cut}
use Rattle.tile_cutter.specs.WorldBox.{bounding_box}
use Rattle.feature_store.specs.Store.{FeatureMap}

-- a number, and the bounding box and the zooms of its feature
abbrev pub index_entry : ℕ × FeatureData → IndexEntry
index_entry e = record { id = e.0; span = record { bounds = bounding_box e.1.geometry; minzoom = e.1.minzoom; maxzoom = e.1.maxzoom } }

-- the index has these of all features of the map, and nothing else
abbrev pub IsIndexed : FeatureMap → List IndexEntry → Type 0
IsIndexed m es = IsPermutation (map index_entry m) es

-- the same of an index that there may be
abbrev pub IsIndexedBy : FeatureMap → Option IndexView → Type 0
IsIndexedBy m index = IfSome index (λ i. IsIndexed m i.entries)

-- for how many features more there is room, where the numbers have room for so many
abbrev pub spare_with : ℕ → Option IndexView → ℕ
spare_with n index = option_map_or (λ i. min n i.spare) index n

-- numbers ascend, and a feature of which the tile shows something has its number among them
pub record ShowsAll (m : FeatureMap) (z x y : ℕ) (numbers : List ℕ) : Type 0 where
  pub ascending : IsStrictlySortedBy nat_cmp numbers
  pub every : All (λ e. IsSome (feature_cut e.1 z x y) → Contains numbers e.0) m
