-- The faults that bytes have.
use Rattle.std.specs.Prelude.{◌≡◌, ℕ, ◌<◌, ◌⊎◌, List, [], ◌∷◌, ◌++◌, length, Option, Some, None}
use Rattle.std.specs.Prelude.{true, false}
use Rattle.std.specs.List.{filter}
use Rattle.std.specs.Str.{IsUtf8}
use Rattle.pb_wire.specs.Varint.{IsVarint}
use Rattle.pb_wire.specs.Message.{Value, varint_value, eight_bytes, some_bytes, four_bytes, FieldData, IsMessage}
use Rattle.geometry_commands.specs.Shapes.{ShapeView, IsShape}
use Rattle.mvt_layer.specs.declared.field_numbers.TheConstants.{TILE_LAYERS, LAYER_NAME, LAYER_FEATURES, LAYER_KEYS, LAYER_VALUES, LAYER_EXTENT, LAYER_VERSION}
use Rattle.mvt_layer.specs.declared.field_numbers.TheConstants.{FEATURE_ID, FEATURE_TAGS, FEATURE_TYPE, FEATURE_GEOMETRY}
use Rattle.mvt_layer.specs.declared.fault.TileFault.{TileFault}
use Rattle.mvt_layer.specs.declared.fault.TileFault.TheVariants as faults
use Rattle.mvt_layer.specs.declared.layers.TheConstants.{DEFAULT_VERSION, CURRENT_VERSION}
use Rattle.mvt_layer.specs.Tile.{TagView, Tagged, LayerView}
use Rattle.mvt_layer.specs.Reading.{kind_of, is_known, has_kind, has_name}
use Rattle.mvt_layer.specs.Reads.{values_of, LastNumber, LastBytes, AreParts, Each, ArePacked, AreNumbers, AreTags, LastValue, IsText, SaysValue, SaysLayer}

-- the bytes are not a message
abbrev pub IsBroken : List ℕ → Type 0
IsBroken bytes = (fields : List FieldData) → IsMessage bytes fields → ⊥

-- the bytes begin with a message of these fields
abbrev pub BeginsWith : List ℕ → List FieldData → Type 0
BeginsWith bytes fields = (front : List ℕ) × (rest : List ℕ) × (bytes ≡ front ++ rest) × IsMessage front fields

-- the bytes hold this field, after fields only
abbrev pub HasField : List ℕ → FieldData → Type 0
HasField bytes f = (fields : List FieldData) × BeginsWith bytes (fields ++ f ∷ [])

-- the bytes do not begin with a number
abbrev pub NoVarint : List ℕ → Type 0
NoVarint bytes = (first rest : List ℕ) (n : ℕ) → bytes ≡ first ++ rest → IsVarint first n → ⊥

-- after some numbers there is none, or one that 32 bits can't hold
pub record PackedHas (part : List ℕ) (d : TileFault) : Type 0 where
  pub numbers : List ℕ
  pub front : List ℕ
  pub rest : List ℕ
  pub parts : part ≡ front ++ rest
  pub packed : ArePacked front numbers
  pub fault : ((d ≡ faults.Wire) × (0 < length rest) × NoVarint rest)
      ⊎ ((d ≡ faults.Range) × ((first : List ℕ) × (more : List ℕ) × (n : ℕ) × (rest ≡ first ++ more) × IsVarint first n × (4294967295 < n)))

-- a value that is not a number of 64 bits, bytes, a list of numbers of 32 bits
abbrev pub BadNumber : Value → TileFault → Type 0
BadNumber (varint_value n) d = ⊥
BadNumber (eight_bytes part) d = d ≡ faults.Kind
BadNumber (some_bytes part) d = d ≡ faults.Kind
BadNumber (four_bytes part) d = d ≡ faults.Kind

abbrev pub BadBytes : Value → TileFault → Type 0
BadBytes (some_bytes part) d = ⊥
BadBytes (varint_value n) d = d ≡ faults.Kind
BadBytes (eight_bytes part) d = d ≡ faults.Kind
BadBytes (four_bytes part) d = d ≡ faults.Kind

abbrev pub BadNumbers : Value → TileFault → Type 0
BadNumbers (varint_value n) d = (d ≡ faults.Range) × (4294967295 < n)
BadNumbers (some_bytes part) d = PackedHas part d
BadNumbers (eight_bytes part) d = d ≡ faults.Kind
BadNumbers (four_bytes part) d = d ≡ faults.Kind

-- the bytes are not a message, or a field of this number has a bad value
pub data PassHas (Bad : Value → TileFault → Type 0) (number : ℕ) (bytes : List ℕ) (d : TileFault) : Type 0 where
  broken : d ≡ faults.Wire → IsBroken bytes → PassHas Bad number bytes d
  bad_value : (f : FieldData) → HasField bytes f → f.number ≡ number → Bad f.value d → PassHas Bad number bytes d

-- a fault of a feature, with the pools of its layer
pub data FeatureHas (keys : List (List ℕ)) (values : List TagView) (bytes : List ℕ) (d : TileFault) : Type 0 where
  at_id : PassHas BadNumber FEATURE_ID bytes d → FeatureHas keys values bytes d
  at_kind : PassHas BadNumber FEATURE_TYPE bytes d → FeatureHas keys values bytes d
  at_indices : PassHas BadNumbers FEATURE_TAGS bytes d → FeatureHas keys values bytes d
  at_ints : PassHas BadNumbers FEATURE_GEOMETRY bytes d → FeatureHas keys values bytes d
  -- the indices name no tags
  at_tags : d ≡ faults.Tag → (fields : List FieldData) → IsMessage bytes fields → (indices : List ℕ) → AreNumbers (values_of FEATURE_TAGS fields) indices
      → ((ts : List Tagged) → AreTags keys values [] indices ts → ⊥) → FeatureHas keys values bytes d
  -- the integers are not a shape of the kind
  at_shape : d ≡ faults.Geometry → (fields : List FieldData) → IsMessage bytes fields → (kind : Option ℕ) → LastNumber None (values_of FEATURE_TYPE fields) kind
      → (ints : List ℕ) → AreNumbers (values_of FEATURE_GEOMETRY fields) ints → ((s : ShapeView) → IsShape (kind_of kind) ints s → ⊥)
      → FeatureHas keys values bytes d

-- a fault of the value of a tag
pub data ValueHas (bytes : List ℕ) (d : TileFault) : Type 0 where
  value_broken : d ≡ faults.Wire → IsBroken bytes → ValueHas bytes d
  value_kind : d ≡ faults.Kind → (f : FieldData) → HasField bytes f → is_known f.number ≡ true → has_kind f.number f.value ≡ false → ValueHas bytes d
  two_kinds : d ≡ faults.Value → (f : FieldData) → (g : FieldData) → HasField bytes f → HasField bytes g → is_known f.number ≡ true → is_known g.number ≡ true
      → (f.number ≡ g.number → ⊥) → ValueHas bytes d
  no_kind : d ≡ faults.Value → (fields : List FieldData) → IsMessage bytes fields → filter (λ f. is_known f.number) fields ≡ [] → ValueHas bytes d
  value_text : d ≡ faults.Utf8 → (fields : List FieldData) → IsMessage bytes fields → (f : FieldData)
      → LastValue None (filter (λ f. is_known f.number) fields) (Some f)
      → (part : List ℕ) → f.value ≡ some_bytes part → (IsUtf8 part → ⊥) → ValueHas bytes d

-- one of the parts
abbrev pub IsAmong : List ℕ → List (List ℕ) → Type 0
IsAmong p parts = (front : List (List ℕ)) × (rest : List (List ℕ)) × (parts ≡ front ++ p ∷ rest)

-- a fault of a layer
pub data LayerHas (bytes : List ℕ) (d : TileFault) : Type 0 where
  at_name : PassHas BadBytes LAYER_NAME bytes d → LayerHas bytes d
  at_version : PassHas BadNumber LAYER_VERSION bytes d → LayerHas bytes d
  at_extent : PassHas BadNumber LAYER_EXTENT bytes d → LayerHas bytes d
  at_keys : PassHas BadBytes LAYER_KEYS bytes d → LayerHas bytes d
  at_values : PassHas BadBytes LAYER_VALUES bytes d → LayerHas bytes d
  at_features : PassHas BadBytes LAYER_FEATURES bytes d → LayerHas bytes d
  no_name : d ≡ faults.Name → (fields : List FieldData) → IsMessage bytes fields → LastBytes None (values_of LAYER_NAME fields) None → LayerHas bytes d
  name_text : d ≡ faults.Utf8 → (fields : List FieldData) → IsMessage bytes fields → (part : List ℕ) → LastBytes None (values_of LAYER_NAME fields) (Some part)
      → (IsUtf8 part → ⊥) → LayerHas bytes d
  large_number : d ≡ faults.Range → (fields : List FieldData) → IsMessage bytes fields → (number : ℕ) → (number ≡ LAYER_VERSION) ⊎ (number ≡ LAYER_EXTENT)
      → (n : ℕ) → LastNumber None (values_of number fields) (Some n) → 4294967295 < n → LayerHas bytes d
  other_version : d ≡ faults.Version → (fields : List FieldData) → IsMessage bytes fields → (n : ℕ) → LastNumber None (values_of LAYER_VERSION fields) (Some n)
      → (n ≡ DEFAULT_VERSION → ⊥) → (n ≡ CURRENT_VERSION → ⊥) → LayerHas bytes d
  no_extent : d ≡ faults.Extent → (fields : List FieldData) → IsMessage bytes fields → LastNumber None (values_of LAYER_EXTENT fields) (Some 0)
      → LayerHas bytes d
  key_text : d ≡ faults.Utf8 → (fields : List FieldData) → IsMessage bytes fields → (raw : List (List ℕ)) → AreParts (values_of LAYER_KEYS fields) raw
      → (p : List ℕ) → IsAmong p raw → (IsUtf8 p → ⊥) → LayerHas bytes d
  in_value : (fields : List FieldData) → IsMessage bytes fields → (raw : List (List ℕ)) → AreParts (values_of LAYER_VALUES fields) raw
      → (p : List ℕ) → IsAmong p raw → ValueHas p d → LayerHas bytes d
  in_feature : (fields : List FieldData) → IsMessage bytes fields → (raw_keys : List (List ℕ)) → AreParts (values_of LAYER_KEYS fields) raw_keys
      → (keys : List (List ℕ)) → Each IsText raw_keys keys → (raw_values : List (List ℕ)) → AreParts (values_of LAYER_VALUES fields) raw_values
      → (values : List TagView) → Each SaysValue raw_values values → (raw : List (List ℕ)) → AreParts (values_of LAYER_FEATURES fields) raw
      → (p : List ℕ) → IsAmong p raw → FeatureHas keys values p d → LayerHas bytes d

-- a fault of a tile
pub data TileHas (bytes : List ℕ) (d : TileFault) : Type 0 where
  at_layers : PassHas BadBytes TILE_LAYERS bytes d → TileHas bytes d
  in_layer : (fields : List FieldData) → IsMessage bytes fields → (raw : List (List ℕ)) → AreParts (values_of TILE_LAYERS fields) raw
      → (p : List ℕ) → IsAmong p raw → LayerHas p d → TileHas bytes d
  -- two of the layers have one name
  layer_twice : d ≡ faults.LayerTwice → (fields : List FieldData) → IsMessage bytes fields → (front : List (List ℕ)) → (p : List ℕ) → (rest : List (List ℕ))
      → AreParts (values_of TILE_LAYERS fields) (front ++ p ∷ rest) → (ls : List LayerView) → Each SaysLayer front ls → (l : LayerView) → SaysLayer p l
      → has_name ls l.name ≡ true → TileHas bytes d
