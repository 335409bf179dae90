-- Features that are looked up by their numbers.
use Rattle.std.specs.Prelude.{ℕ, List}
use Rattle.std.specs.Borrow.{Bor}
use Rattle.std.specs.List.{flat_map}
use Rattle.feature_model.specs.Data.{FeatureData}
use Rattle.edit_text.specs.Views.{feature_view}
use Rattle.feature_store.specs.declared.gathered.Found.{Found}
use Rattle.feature_store.specs.Inside.{Stored, stored_data}
use Rattle.feature_store.specs.Store.{FeatureMap, entry_at}

-- the entries of a map that have these numbers, in the order of the numbers
abbrev pub chosen : FeatureMap → List ℕ → FeatureMap
chosen m ns = flat_map (entry_at m) ns

-- a number and the feature that is kept for it, as an entry of the map
abbrev pub borrowed_data : ℕ × Bor Stored → ℕ × FeatureData
borrowed_data e = (e.0, stored_data e.1.now)

-- a feature that is looked up, as an entry of the map
abbrev pub found_data : Found → ℕ × FeatureData
found_data f = (f.id, feature_view f.feature)
