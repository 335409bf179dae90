-- How a store keeps its map.
use Rattle.std.specs.Prelude.{◌≡◌, ℕ, List, All, map}
use Rattle.feature_model.specs.Data.{FeatureData}
use Rattle.feature_store.specs.declared.store.Store.TheInside.{Inside}
use Rattle.feature_store.specs.Digests.{map_digest}
use Rattle.feature_store.specs.Indexed.{IsIndexedBy, spare_with}
use Rattle.feature_store.specs.Store.{FeatureMap, StoreView, IsMap}

-- a feature, and the number that its text gives it to
abbrev pub Stored : Type 0
Stored = ℕ × FeatureData

-- the feature
abbrev pub stored_data : Stored → FeatureData
stored_data s = s.1

-- an entry without the number of its text
abbrev pub entry_data : ℕ × Stored → ℕ × FeatureData
entry_data e = (e.0, stored_data e.1)

-- the map that entries keep
abbrev pub entries_data : List (ℕ × Stored) → FeatureMap
entries_data es = map entry_data es

-- the text of an entry gives the feature to the entry's number
abbrev pub IsOwn : ℕ × Stored → Type 0
IsOwn e = e.1.0 ≡ e.0

-- the features by number, and for how many more both the numbers and the index, if there is one, have room
abbrev pub store_view : Inside → StoreView
store_view s = record { features = entries_data s.features.entries; spare = spare_with s.features.spare s.index }

-- the index, if there is one, has what the map has, and the digest is the map's
pub record IsStore (s : Inside) : Type 0 where
  pub is_map : IsMap (entries_data s.features.entries)
  pub own : All IsOwn s.features.entries
  pub indexed : IsIndexedBy (entries_data s.features.entries) s.index
  pub digest : s.digest ≡ map_digest (entries_data s.features.entries)
