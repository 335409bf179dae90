-- What the bytes of a tile say.
use Rattle.std.specs.Prelude.{◌≡◌, ℕ, ◌<◌, ◌==◌, ◌⊎◌, if◌then◌else◌, false, IsTrue, List, [], ◌∷◌, ◌++◌, map, slice_get, Option, Some, None, Ok}
use Rattle.std.specs.List.{filter}
use Rattle.std.specs.Str.{IsUtf8}
use Rattle.pb_wire.specs.Varint.{IsVarint}
use Rattle.pb_wire.specs.Message.{Value, varint_value, eight_bytes, some_bytes, four_bytes, FieldData, IsMessage}
use Rattle.geometry_commands.specs.Shapes.{IsShape}
use Rattle.mvt_layer.specs.declared.field_numbers.TheConstants.{TILE_LAYERS, LAYER_NAME, LAYER_FEATURES, LAYER_KEYS, LAYER_VALUES, LAYER_EXTENT, LAYER_VERSION}
use Rattle.mvt_layer.specs.declared.field_numbers.TheConstants.{FEATURE_ID, FEATURE_TAGS, FEATURE_TYPE, FEATURE_GEOMETRY}
use Rattle.mvt_layer.specs.declared.layers.TheConstants.{DEFAULT_EXTENT, DEFAULT_VERSION, CURRENT_VERSION}
use Rattle.mvt_layer.specs.Tile.{TagView, Tagged, FeatureView, LayerView}
use Rattle.mvt_layer.specs.Reading.{is_known, has_kind, may_follow, meaning, has_number, has_name, kind_of}

-- the values of the fields of this number, in order
abbrev pub values_of : ℕ → List FieldData → List Value
values_of number [] = []
values_of number (f ∷ fs) = if f.number == number then f.value ∷ values_of number fs else values_of number fs

-- the last of the values is this number, if there are any, and all are numbers
abbrev pub LastNumber : Option ℕ → List Value → Option ℕ → Type 0
LastNumber before [] last = last ≡ before
LastNumber before (varint_value n ∷ vs) last = LastNumber (Some n) vs last
LastNumber before (eight_bytes _ ∷ vs) last = ⊥
LastNumber before (some_bytes _ ∷ vs) last = ⊥
LastNumber before (four_bytes _ ∷ vs) last = ⊥

-- the last of the values is these bytes, if there are any, and all are bytes
abbrev pub LastBytes : Option (List ℕ) → List Value → Option (List ℕ) → Type 0
LastBytes before [] last = last ≡ before
LastBytes before (some_bytes bytes ∷ vs) last = LastBytes (Some bytes) vs last
LastBytes before (eight_bytes _ ∷ vs) last = ⊥
LastBytes before (varint_value _ ∷ vs) last = ⊥
LastBytes before (four_bytes _ ∷ vs) last = ⊥

-- the values are these parts
abbrev pub AreParts : List Value → List (List ℕ) → Type 0
AreParts vs parts = vs ≡ map (λ p. some_bytes p) parts

-- the part and the item at each index belong together
abbrev pub Each : {X : Type 0} → (List ℕ → X → Type 0) → List (List ℕ) → List X → Type 0
Each Says [] [] = Unit {0}
Each Says (p ∷ ps) (x ∷ xs) = Says p x × Each Says ps xs
Each Says [] (x ∷ xs) = ⊥
Each Says (p ∷ ps) [] = ⊥

-- an encoding of each number, one after the other
abbrev pub ArePacked : List ℕ → List ℕ → Type 0
ArePacked bytes [] = bytes ≡ []
ArePacked bytes (n ∷ ns) = (first : List ℕ) × (rest : List ℕ) × (bytes ≡ first ++ rest) × IsVarint first n × (n < 4294967296) × ArePacked rest ns

-- numbers of 32 bits that come one a field or many
abbrev pub AreNumbers : List Value → List ℕ → Type 0
AreNumbers [] ns = ns ≡ []
AreNumbers (varint_value n ∷ vs) ns = (rest : List ℕ) × (ns ≡ n ∷ rest) × (n < 4294967296) × AreNumbers vs rest
AreNumbers (some_bytes bytes ∷ vs) ns = (front : List ℕ) × (rest : List ℕ) × (ns ≡ front ++ rest) × ArePacked bytes front × AreNumbers vs rest
AreNumbers (eight_bytes _ ∷ vs) ns = ⊥
AreNumbers (four_bytes _ ∷ vs) ns = ⊥

-- the last of the fields, where each has the wire type of its number, and all have one number
abbrev pub LastValue : Option FieldData → List FieldData → Option FieldData → Type 0
LastValue before [] last = last ≡ before
LastValue before (f ∷ fs) last = IsTrue (has_kind f.number f.value) × IsTrue (may_follow before f.number) × LastValue (Some f) fs last

-- the bytes say the value of a tag, in one kind of field
pub record SaysValue (bytes : List ℕ) (v : TagView) : Type 0 where
  pub fields : List FieldData
  pub message : IsMessage bytes fields
  pub field : FieldData
  pub last : LastValue None (filter (λ f. is_known f.number) fields) (Some field)
  pub means : meaning field.number field.value ≡ Ok v

-- the indices, a key's and a value's in turn, name these tags; each key index comes once
abbrev pub AreTags : List (List ℕ) → List TagView → List ℕ → List ℕ → List Tagged → Type 0
AreTags keys values used [] tags = tags ≡ []
AreTags keys values used (k ∷ []) tags = ⊥
AreTags keys values used (k ∷ v ∷ ns) tags =
    (t : Tagged) × (rest : List Tagged) × (tags ≡ t ∷ rest) × (has_number used k ≡ false) × (slice_get keys k ≡ Some t.0) × (slice_get values v ≡ Some t.1)
    × AreTags keys values (used ++ k ∷ []) ns rest

-- with these pools, the bytes say a feature
pub record SaysFeature (keys : List (List ℕ)) (values : List TagView) (bytes : List ℕ) (f : FeatureView) : Type 0 where
  pub fields : List FieldData
  pub message : IsMessage bytes fields
  pub id : LastNumber None (values_of FEATURE_ID fields) f.id
  pub kind : Option ℕ
  pub kind_is : LastNumber None (values_of FEATURE_TYPE fields) kind
  pub indices : List ℕ
  pub indices_are : AreNumbers (values_of FEATURE_TAGS fields) indices
  pub ints : List ℕ
  pub ints_are : AreNumbers (values_of FEATURE_GEOMETRY fields) ints
  pub tags : AreTags keys values [] indices f.tags
  pub shape : IsShape (kind_of kind) ints f.shape

abbrev pub IsText : List ℕ → List ℕ → Type 0
IsText bytes text = (text ≡ bytes) × IsUtf8 bytes

-- the number, of 32 bits, or the default if there is none
abbrev pub SmallOr : ℕ → Option ℕ → ℕ → Type 0
SmallOr otherwise None n = n ≡ otherwise
SmallOr otherwise (Some m) n = (n ≡ m) × (m < 4294967296)

pub record SaysLayer (bytes : List ℕ) (l : LayerView) : Type 0 where
  pub fields : List FieldData
  pub message : IsMessage bytes fields
  pub name : LastBytes None (values_of LAYER_NAME fields) (Some l.name)
  pub name_text : IsUtf8 l.name
  pub raw_version : Option ℕ
  pub raw_version_is : LastNumber None (values_of LAYER_VERSION fields) raw_version
  pub version : SmallOr DEFAULT_VERSION raw_version l.version
  pub version_known : (l.version ≡ DEFAULT_VERSION) ⊎ (l.version ≡ CURRENT_VERSION)
  pub raw_extent : Option ℕ
  pub raw_extent_is : LastNumber None (values_of LAYER_EXTENT fields) raw_extent
  pub extent : SmallOr DEFAULT_EXTENT raw_extent l.extent
  pub extent_some : 0 < l.extent
  pub raw_keys : List (List ℕ)
  pub raw_keys_are : AreParts (values_of LAYER_KEYS fields) raw_keys
  pub keys : List (List ℕ)
  pub keys_are : Each IsText raw_keys keys
  pub raw_values : List (List ℕ)
  pub raw_values_are : AreParts (values_of LAYER_VALUES fields) raw_values
  pub values : List TagView
  pub values_are : Each SaysValue raw_values values
  pub raw_features : List (List ℕ)
  pub raw_features_are : AreParts (values_of LAYER_FEATURES fields) raw_features
  pub features : Each (SaysFeature keys values) raw_features l.features

-- no two of the layers have one name
abbrev pub AreNamed : List LayerView → List LayerView → Type 0
AreNamed before [] = Unit {0}
AreNamed before (l ∷ ls) = (has_name before l.name ≡ false) × AreNamed (before ++ l ∷ []) ls

pub record ReadsAs (bytes : List ℕ) (ls : List LayerView) : Type 0 where
  pub fields : List FieldData
  pub message : IsMessage bytes fields
  pub parts : List (List ℕ)
  pub parts_are : AreParts (values_of TILE_LAYERS fields) parts
  pub layers : Each SaysLayer parts ls
  pub named : AreNamed [] ls
