-- Texts that are snapshots of maps.
use Rattle.std.specs.Prelude.{◌≡◌, ◌<◌, ℕ, List, All}
use Rattle.feature_model.specs.Data.{FeatureData, put}
use Rattle.feature_model.specs.Types.{IsChange}
use Rattle.feature_store.specs.Store.{FeatureMap, IsMap, snapshot}

-- the number can be given the feature
abbrev pub IsEditOf : ℕ × FeatureData → Type 0
IsEditOf e = IsChange (put e.0 e.1)

-- the number is greater than each of the map
abbrev pub IsBehind : FeatureMap → ℕ → Type 0
IsBehind m id = All (λ e. e.0 < id) m

-- no map has this snapshot
abbrev pub IsNoSnapshot : List ℕ → Type 0
IsNoSnapshot text = (m : FeatureMap) → IsMap m → snapshot m ≡ text → ⊥
