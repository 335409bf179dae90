-- The features of a map whose bounding boxes meet a box of the world.
use Rattle.std.specs.Prelude.{◌≡◌, ℕ, ◌+◌, ◌≤◌, Bool, [], ◌∷◌, length, filter, Option, Some, IsSome, option_map}
use Rattle.std.specs.Map.{keys_of}
use Rattle.box_index.specs.Shown.{meets}
use Rattle.feature_model.specs.Data.{FeatureData}
use Rattle.feature_model.specs.declared.feature.WorldBox.{WorldBox}
use Rattle.tile_cutter.specs.WorldBox.{bounding_box}
use Rattle.feature_store.specs.Store.{FeatureMap, feature_from}
use Rattle.feature_store.specs.declared.in_box.InBox.{InBox}
use Rattle.feature_store.specs.declared.in_box.TheConstants.{BOX_LOOKS}

-- whether a feature's bounding box and this one have a point in common
abbrev pub is_in_box : WorldBox → ℕ × FeatureData → Bool
is_in_box bounds e = meets (bounding_box e.1.geometry) bounds

-- the entries whose features' bounding boxes do, in their order
abbrev pub in_box : WorldBox → FeatureMap → FeatureMap
in_box bounds es = filter (is_in_box bounds) es

-- the entries are the features of the map from a number on, in ascending numbers and none left out, up to the next one, if there is one
abbrev pub AreNext : (m : FeatureMap) → (id : ℕ) → FeatureMap → (next : Option (ℕ × FeatureData)) → Type 0
AreNext m id [] next = feature_from m id ≡ next
AreNext m id (e ∷ es) next = (feature_from m id ≡ Some e) × AreNext m (e.0 + 1) es next

-- The numbers are those in the box, of all features from a number on up to the next one; where there is one, these are at least BOX_LOOKS.
pub record IsInBox (m : FeatureMap) (bounds : WorldBox) (id : ℕ) (f : InBox) : Type 0 where
  pub features : FeatureMap
  pub next : Option (ℕ × FeatureData)
  pub are_next : AreNext m id features next
  pub numbers : f.numbers.items ≡ keys_of (in_box bounds features)
  pub next_is : f.next ≡ option_map (λ e. e.0) next
  pub many : IsSome f.next → BOX_LOOKS ≤ length features
