-- The one encoding of a tile: fields in ascending number, numbers in their shortest encoding.
use Rattle.std.specs.Prelude.{ℕ, ◌+◌, ◌*◌, List, [], ◌∷◌, ◌++◌, length, map, Option, Some, None, if◌then◌else◌}
use Rattle.std.specs.List.{flat_map}
use Rattle.pb_wire.specs.declared.limits.TheConstants.{WIRE_VARINT, WIRE_LEN}
use Rattle.pb_wire.specs.Varint.{varint}
use Rattle.pb_wire.specs.Zigzag.{zigzagged}
use Rattle.geometry_commands.specs.Shapes.{ShapeView, points, lines, rings, raw, shape_spelled}
use Rattle.mvt_layer.specs.declared.field_numbers.TheConstants.{TILE_LAYERS, LAYER_NAME, LAYER_FEATURES, LAYER_KEYS, LAYER_VALUES, LAYER_EXTENT, LAYER_VERSION}
use Rattle.mvt_layer.specs.declared.field_numbers.TheConstants.{FEATURE_ID, FEATURE_TAGS, FEATURE_TYPE, FEATURE_GEOMETRY, STRING_VALUE, UINT_VALUE, SINT_VALUE}
use Rattle.mvt_layer.specs.declared.field_numbers.TheConstants.{BOOL_VALUE, UNKNOWN_TYPE, POINT_TYPE, LINESTRING_TYPE, POLYGON_TYPE}
use Rattle.mvt_layer.specs.Tile.{TagView, text, natural, negative, truth, Tagged, FeatureView, LayerView}
use Rattle.mvt_write.specs.Pools.{pool_of, index_of}

-- a field that is a number
abbrev pub number_field : ℕ → ℕ → List ℕ
number_field number n = varint (8 * number + WIRE_VARINT) ++ varint n

-- a field that is bytes
abbrev pub bytes_field : ℕ → List ℕ → List ℕ
bytes_field number bytes = varint (8 * number + WIRE_LEN) ++ (varint (length bytes) ++ bytes)

-- a field of packed numbers
abbrev pub packed_field : ℕ → List ℕ → List ℕ
packed_field number ns = bytes_field number (flat_map varint ns)

-- ---- values

-- the value of a tag, as one field; no floating point number is written
unfoldable pub value_written : TagView → List ℕ
value_written (text t) = bytes_field STRING_VALUE t
value_written (natural n) = number_field UINT_VALUE n
value_written (negative z) = number_field SINT_VALUE (zigzagged z)
value_written (truth b) = number_field BOOL_VALUE (if b then 1 else 0)
value_written _ = []

-- ---- features

abbrev pub id_written : Option ℕ → List ℕ
id_written None = []
id_written (Some id) = number_field FEATURE_ID id

-- for each tag in turn the index of its key and the index of its value
abbrev pub tag_indices : List (List ℕ) → List (List ℕ) → List Tagged → List ℕ
tag_indices keys values tags = flat_map (λ t. index_of keys t.0 ∷ index_of values (value_written t.1) ∷ []) tags

-- the indices of the tags, omitted if there are none
abbrev pub tags_written : List (List ℕ) → List (List ℕ) → List Tagged → List ℕ
tags_written keys values [] = []
tags_written keys values (t ∷ ts) = packed_field FEATURE_TAGS (tag_indices keys values (t ∷ ts))

abbrev pub kind_number : ShapeView → ℕ
kind_number (raw ns) = UNKNOWN_TYPE
kind_number (points ps) = POINT_TYPE
kind_number (lines ls) = LINESTRING_TYPE
kind_number (rings ls) = POLYGON_TYPE

-- a feature, with the pools of its layer
unfoldable pub feature_written : List (List ℕ) → List (List ℕ) → FeatureView → List ℕ
feature_written keys values f =
    id_written f.id ++ (
    tags_written keys values f.tags ++ (
    number_field FEATURE_TYPE (kind_number f.shape) ++ packed_field FEATURE_GEOMETRY (shape_spelled f.shape)))

-- ---- layers

abbrev pub tags_of : List FeatureView → List Tagged
tags_of fs = flat_map (λ f. f.tags) fs

-- the keys, and the messages of the values, in the order of their use
abbrev pub keys_used : List Tagged → List (List ℕ)
keys_used tags = map (λ t. t.0) tags

abbrev pub values_used : List Tagged → List (List ℕ)
values_used tags = map (λ t. value_written t.1) tags

-- a layer with these pools
unfoldable pub layer_with : List (List ℕ) → List (List ℕ) → LayerView → List ℕ
layer_with keys values l =
    bytes_field LAYER_NAME l.name ++ (
    flat_map (λ f. bytes_field LAYER_FEATURES (feature_written keys values f)) l.features ++ (
    flat_map (bytes_field LAYER_KEYS) keys ++ (
    flat_map (bytes_field LAYER_VALUES) values ++ (
    number_field LAYER_EXTENT l.extent ++ number_field LAYER_VERSION l.version))))

abbrev pub layer_written : LayerView → List ℕ
layer_written l = layer_with (pool_of (keys_used (tags_of l.features))) (pool_of (values_used (tags_of l.features))) l

-- the one encoding of the layers
unfoldable pub written : List LayerView → List ℕ
written ls = flat_map (λ l. bytes_field TILE_LAYERS (layer_written l)) ls
