-- The metadata of a map.
use Rattle.std.specs.Prelude.{◌≡◌, ◌↔◌, ℕ, List, [], ◌∷◌, map, All, Contains, Some}
use Rattle.std.specs.Ordering.{nat_cmp}
use Rattle.std.specs.Cmp.Lexicographic.{slice_cmp}
use Rattle.std.specs.List.Sorted.{IsStrictlySortedBy}
use Rattle.std.specs.Map.{keys_of}
use Rattle.serde_json.specs.Data.{unsigned, Data, number, string, array, object, Members, no_members, member}
use Rattle.serde_json.specs.Read.{read}
use Rattle.serde_json.specs.View.{items_of}
use Rattle.serde_json.specs.Written.{compact_text}
use Rattle.feature_store.specs.Store.{FeatureMap}
use Rattle.map_metadata.specs.declared.field_kind.FieldKind.{FieldKind}
use Rattle.map_metadata.specs.Fields.{name_bytes, kind_name, features_in, IsLayerName, kinds_in, IsKey, IsFieldKind, IsLeast, IsGreatest}

-- what metadata says of a layer: its name, its keys with their kinds, and its zooms
pub record LayerData : Type 0 where
  pub name : List ℕ
  pub fields : List (List ℕ × FieldKind)
  pub minzoom : ℕ
  pub maxzoom : ℕ

-- names that ascend byte by byte
abbrev pub Ascend : List (List ℕ) → Type 0
Ascend names = IsStrictlySortedBy (slice_cmp nat_cmp) names

-- the names of layers
abbrev pub names_of : List LayerData → List (List ℕ)
names_of ls = map (λ l. l.name) ls

-- what is true of the features of a layer: the keys ascend and are those of their tags
pub record IsLayer (m : FeatureMap) (l : LayerData) : Type 0 where
  pub ascending : Ascend (keys_of l.fields)
  pub keys : (key : List ℕ) → Contains (keys_of l.fields) key ↔ IsKey (features_in m l.name) key
  pub kinds : All (λ f. IsFieldKind (kinds_in (features_in m l.name) f.0) f.1) l.fields
  pub minzoom : IsLeast (map (λ f. f.minzoom) (features_in m l.name)) l.minzoom
  pub maxzoom : IsGreatest (map (λ f. f.maxzoom) (features_in m l.name)) l.maxzoom

-- the layers of a map: their names ascend and are those of its features
pub record AreLayers (m : FeatureMap) (ls : List LayerData) : Type 0 where
  pub ascending : Ascend (names_of ls)
  pub names : (name : List ℕ) → Contains (names_of ls) name ↔ IsLayerName m name
  pub layers : All (IsLayer m) ls

-- ---- as JSON, whose members ascend

-- a member for each key
abbrev pub fields_json : List (List ℕ × FieldKind) → Members
fields_json [] = no_members
fields_json (f ∷ fs) = member f.0 (string (kind_name f.1)) (fields_json fs)

-- a layer
abbrev pub layer_json : LayerData → Data
layer_json l = object
    (member (name_bytes "fields") (object (fields_json l.fields))
    (member (name_bytes "id") (string l.name)
    (member (name_bytes "maxzoom") (number (unsigned l.maxzoom))
    (member (name_bytes "minzoom") (number (unsigned l.minzoom))
    no_members))))

-- all layers
abbrev pub layers_json : List LayerData → Data
layers_json ls = object (member (name_bytes "vector_layers") (array (items_of (map layer_json ls))) no_members)

-- the metadata of a map: its layers as JSON
abbrev pub IsMetadata : FeatureMap → Data → Type 0
IsMetadata m d = (ls : List LayerData) × AreLayers m ls × (d ≡ layers_json ls)

-- the metadata of a map as text: as JSON is written, and it reads as them
abbrev pub IsMetadataOf : FeatureMap → List ℕ → Type 0
IsMetadataOf m text = (d : Data) × IsMetadata m d × (text ≡ compact_text d) × (read text ≡ Some d)
