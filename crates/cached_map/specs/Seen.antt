-- What the author of an edit saw, compared with the map.
use Rattle.std.specs.Prelude.{◌≡◌, ℕ, List, ◌∷◌, ◌++◌, All}
use Rattle.feature_model.specs.Seen.{SeenData}
use Rattle.feature_store.specs.Store.{FeatureMap, feature_at}

-- the number has the feature that was seen, or none as it had none then
abbrev pub IsAsSeen : FeatureMap → SeenData → Type 0
IsAsSeen m s = feature_at m s.id ≡ s.feature

-- the number of the first that isn't as it was seen
pub record IsFirstChanged (m : FeatureMap) (all : List SeenData) (id : ℕ) : Type 0 where
  pub before : List SeenData
  pub seen : SeenData
  pub rest : List SeenData
  pub is : all ≡ before ++ seen ∷ rest
  pub number : seen.id ≡ id
  pub same : All (IsAsSeen m) before
  pub changed : ¬ IsAsSeen m seen
