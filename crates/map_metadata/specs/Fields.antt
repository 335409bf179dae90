-- The features of a layer, and what they have for a key.
use Prim.Native.String.{String}
use Rattle.std.specs.Prelude.{◌≡◌, ◌⊎◌, ℕ, ◌≤◌, List, map, All, Contains, codes, Some, None, filter_map, flat_map, if◌then◌else◌}
use Rattle.std.specs.Str.{bytes_eq}
use Rattle.feature_model.specs.Data.{ValueData, text_value, natural_value, negative_value, truth_value, TagData, FeatureData}
use Rattle.feature_store.specs.Store.{FeatureMap}
use Rattle.map_metadata.specs.declared.field_kind.FieldKind.{FieldKind}
use Rattle.map_metadata.specs.declared.field_kind.FieldKind.TheVariants.{Text, Number, Truth}

-- the bytes of a name
unfoldable pub name_bytes : String → List ℕ
name_bytes name = codes name

-- the name of a kind
unfoldable pub kind_name : FieldKind → List ℕ
kind_name Text = codes "String"
kind_name Number = codes "Number"
kind_name Truth = codes "Boolean"

-- the kind of a value
abbrev pub kind_of : ValueData → FieldKind
kind_of (text_value t) = Text
kind_of (natural_value n) = Number
kind_of (negative_value z) = Number
kind_of (truth_value b) = Truth

-- ---- the features of a layer

-- the features of the layer with this name, in the order of the map
abbrev pub features_in : FeatureMap → List ℕ → List FeatureData
features_in m name = filter_map (λ e. if bytes_eq e.1.layer name then Some e.1 else None) m

-- some feature is of the layer with this name
abbrev pub IsLayerName : FeatureMap → List ℕ → Type 0
IsLayerName m name = Contains (map (λ e. e.1.layer) m) name

-- the kinds of the values of a key
abbrev pub kinds_of : List TagData → List ℕ → List FieldKind
kinds_of ts key = filter_map (λ t. if bytes_eq t.key key then Some (kind_of t.value) else None) ts

-- the same, in the tags of features
abbrev pub kinds_in : List FeatureData → List ℕ → List FieldKind
kinds_in fs key = flat_map (λ f. kinds_of f.tags key) fs

-- the keys of their tags
abbrev pub keys_in : List FeatureData → List (List ℕ)
keys_in fs = flat_map (λ f. map (λ t. t.key) f.tags) fs

-- some feature has a tag with this key
abbrev pub IsKey : List FeatureData → List ℕ → Type 0
IsKey fs key = Contains (keys_in fs) key

-- each value is of this kind
abbrev pub AreAll : List FieldKind → FieldKind → Type 0
AreAll kinds kind = All (λ k. k ≡ kind) kinds

-- no one kind is that of each value
abbrev pub Differ : List FieldKind → Type 0
Differ kinds = (kind : FieldKind) → AreAll kinds kind → ⊥

-- the kind of each value, and text where values differ
abbrev pub IsFieldKind : List FieldKind → FieldKind → Type 0
IsFieldKind kinds kind = AreAll kinds kind ⊎ (Differ kinds × (kind ≡ Text))

-- ---- zooms

-- one of the numbers, and none is below it
pub record IsLeast (ns : List ℕ) (n : ℕ) : Type 0 where
  pub among : Contains ns n
  pub least : All (λ k. n ≤ k) ns

-- one of the numbers, and none is above it
pub record IsGreatest (ns : List ℕ) (n : ℕ) : Type 0 where
  pub among : Contains ns n
  pub greatest : All (λ k. k ≤ n) ns
