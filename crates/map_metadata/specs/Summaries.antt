-- What is summed up of features, one after the other.
use Rattle.std.specs.Prelude.{◌≡◌, ℕ, min, max, List, [], ◌∷◌, map, Option, Some, None, option_map, option_and_then}
use Rattle.std.specs.Option.{option_map_or}
use Rattle.std.specs.BTreeMap.{BTreeMap, get_by_text, IsOrdered}
use Rattle.std.specs.String.{string_bytes, string_cmp}
use Rattle.std.specs.declared.alloc.Global.{Global}
use Rattle.std.specs.declared.string.String.{String}
use Rattle.feature_model.specs.Data.{FeatureData}
use Rattle.feature_store.specs.Store.{FeatureMap}
use Rattle.map_metadata.specs.declared.field_kind.FieldKind.{FieldKind}
use Rattle.map_metadata.specs.declared.field_kind.FieldKind.TheVariants.{Text, Number, Truth}
use Rattle.map_metadata.specs.declared.summary.LayerSummary.{LayerSummary}
use Rattle.map_metadata.specs.Fields.{features_in, kinds_in}
use Rattle.map_metadata.specs.Metadata.{LayerData}

-- ---- kinds

-- the kind of values of two kinds: text where they differ
abbrev pub joined : FieldKind → FieldKind → FieldKind
joined Number Number = Number
joined Truth Truth = Truth
joined j k = Text

-- the kind of the values before, if there are any, and of one more
abbrev pub with_kind : Option FieldKind → FieldKind → FieldKind
with_kind o k = option_map_or (λ j. joined j k) o k

-- the same of more values
abbrev pub with_kinds : Option FieldKind → List FieldKind → Option FieldKind
with_kinds o [] = o
with_kinds o (k ∷ ks) = with_kinds (Some (with_kind o k)) ks

-- the kinds by key
abbrev pub Fields : Type 0
Fields = BTreeMap (String Global) FieldKind

-- the kind of a key
abbrev pub kind_at : Fields → List ℕ → Option FieldKind
kind_at fields key = get_by_text fields key

-- ---- zooms

-- the zooms of the features before, if there are any, and of one more: from the least to the greatest
abbrev pub with_feature : Option (ℕ × ℕ) → FeatureData → ℕ × ℕ
with_feature None f = (f.minzoom, f.maxzoom)
with_feature (Some z) f = (min z.0 f.minzoom, max z.1 f.maxzoom)

-- the same of more features
abbrev pub with_features : Option (ℕ × ℕ) → List FeatureData → Option (ℕ × ℕ)
with_features o [] = o
with_features o (f ∷ fs) = with_features (Some (with_feature o f)) fs

-- ---- layers

-- the layers by name
abbrev pub Layers : Type 0
Layers = BTreeMap (String Global) LayerSummary

-- what is known of a layer
abbrev pub layer_at : Layers → List ℕ → Option LayerSummary
layer_at layers name = get_by_text layers name

-- the zooms of a layer
abbrev pub zooms_of : LayerSummary → ℕ × ℕ
zooms_of s = (s.minzoom, s.maxzoom)

abbrev pub zooms_in : Layers → List ℕ → Option (ℕ × ℕ)
zooms_in layers name = option_map zooms_of (layer_at layers name)

-- the kind of a key in a layer
abbrev pub kind_in : Layers → List ℕ → List ℕ → Option FieldKind
kind_in layers name key = option_and_then (λ s. kind_at s.fields key) (layer_at layers name)

-- the features of a map more
pub record Adds (old new : Layers) (m : FeatureMap) : Type 0 where
  pub zooms : (name : List ℕ) → zooms_in new name ≡ with_features (zooms_in old name) (features_in m name)
  pub kinds : (name key : List ℕ) → kind_in new name key ≡ with_kinds (kind_in old name key) (kinds_in (features_in m name) key)

-- what is known of the features of a map
pub record SumsUp (layers : Layers) (m : FeatureMap) : Type 0 where
  pub zooms : (name : List ℕ) → zooms_in layers name ≡ with_features None (features_in m name)
  pub kinds : (name key : List ℕ) → kind_in layers name key ≡ with_kinds None (kinds_in (features_in m name) key)

-- ---- what is known of layers, without where it lies in memory

-- the keys with their kinds
abbrev pub fields_data : List (String Global × FieldKind) → List (List ℕ × FieldKind)
fields_data es = map (λ e. (string_bytes e.0, e.1)) es

-- a layer of this name
abbrev pub layer_named : List ℕ → LayerSummary → LayerData
layer_named name s = record {
  name = name;
  fields = fields_data s.fields.entries;
  minzoom = s.minzoom;
  maxzoom = s.maxzoom;
}

abbrev pub layer_data : String Global × LayerSummary → LayerData
layer_data e = layer_named (string_bytes e.0) e.1

-- the keys of a layer ascend, as they do in each map
abbrev pub HasOrder : Fields → Type 0
HasOrder fields = IsOrdered string_cmp fields
