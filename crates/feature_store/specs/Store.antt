-- The map: features by number, edits of it, and its snapshot.
use Rattle.std.specs.Prelude.{ℕ, suc, ◌<◌, List, [], ◌∷◌, length, All, fold, Option, option_map}
use Rattle.std.specs.Option.{option_map_or}
use Rattle.std.specs.Ordering.{nat_cmp}
use Rattle.std.specs.List.{flat_map}
use Rattle.std.specs.List.Sorted.{IsStrictlySortedBy}
use Rattle.std.specs.BTreeMap.{insert_entry, is_at}
use Rattle.std.specs.Map.{keys_of, lookup, remove_entry}
use Rattle.feature_model.specs.Data.{FeatureData, ChangeData, put, delete, EditData}
use Rattle.feature_model.specs.Spelled.{spelled_change}
use Rattle.feature_model.specs.Types.{IsChange}
use Rattle.number_map.specs.Blocks.{first_from, last_number}
use Rattle.feature_model.specs.declared.feature.WorldBox.{WorldBox}
use Rattle.tile_cutter.specs.WorldBox.{bounding_box}
use Rattle.feature_store.specs.declared.limit.TheConstants.{TEXTS_END}

-- numbers, each with its feature
abbrev pub FeatureMap : Type 0
FeatureMap = List (ℕ × FeatureData)

-- the feature with this number
unfoldable pub feature_at : FeatureMap → ℕ → Option FeatureData
feature_at m id = lookup (is_at (nat_cmp id)) m

-- the bounding box of the feature with this number
abbrev pub box_at : FeatureMap → ℕ → Option WorldBox
box_at m id = option_map (λ f. bounding_box f.geometry) (feature_at m id)

-- the greatest number, which is the last one since numbers ascend
unfoldable pub greatest_id : FeatureMap → Option ℕ
greatest_id m = last_number m

-- the first feature with this number or a greater one, and its number
unfoldable pub feature_from : FeatureMap → ℕ → Option (ℕ × FeatureData)
feature_from m id = first_from id m

-- the number with its feature, or nothing
abbrev pub entry_at : FeatureMap → ℕ → FeatureMap
entry_at m id = option_map_or (λ f. (id, f) ∷ []) (feature_at m id) []

-- the map in which this number has the feature, whatever it had
unfoldable pub with_feature : FeatureMap → ℕ → FeatureData → FeatureMap
with_feature m id feature = insert_entry nat_cmp m id feature

-- the map in which this number has no feature
unfoldable pub without_feature : FeatureMap → ℕ → FeatureMap
without_feature m id = remove_entry (is_at (nat_cmp id)) m

-- the map after a change
abbrev pub changed : FeatureMap → ChangeData → FeatureMap
changed m (put id f) = with_feature m id f
changed m (delete id) = without_feature m id

-- the map after an edit: after its changes, from the first to the last
abbrev pub edited : FeatureMap → EditData → FeatureMap
edited m cs = fold changed m cs

-- the map after edits, from the first to the last
abbrev pub after : FeatureMap → List EditData → FeatureMap
after m es = fold edited m es

-- how many of the changes set a feature
abbrev pub puts_in : List ChangeData → ℕ
puts_in [] = 0
puts_in (put id f ∷ cs) = suc (puts_in cs)
puts_in (delete id ∷ cs) = puts_in cs

-- the text that gives a number its feature
abbrev pub entry_text : ℕ × FeatureData → List ℕ
entry_text e = spelled_change (put e.0 e.1)

-- the snapshot of a map: these texts, in ascending number
unfoldable pub snapshot : FeatureMap → List ℕ
snapshot m = flat_map entry_text m

-- the numbers ascend, each keeps the limits with its feature and what types promise, and their texts are short together
pub record IsMap (m : FeatureMap) : Type 0 where
  pub ascending : IsStrictlySortedBy nat_cmp (keys_of m)
  pub edits : All (λ e. IsChange (put e.0 e.1)) m
  pub short : length (snapshot m) < TEXTS_END

-- what contracts see of a store: its map, and how many features it takes without memory, whether their numbers have features or not
pub record StoreView : Type 0 where
  pub features : FeatureMap
  pub spare : ℕ

-- any number can be given any feature without memory
abbrev pub HasRoom : StoreView → Type 0
HasRoom s = 0 < s.spare
