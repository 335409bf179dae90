-- The number of each limit, field number and enumerated value.
use Rattle.std.proofs.Common.{◌≡◌, refl}
use Rattle.mvt_layer.specs.declared.layers.TheConstants.{DEFAULT_EXTENT, DEFAULT_VERSION, CURRENT_VERSION}
use Rattle.mvt_layer.specs.declared.field_numbers.TheConstants.{TILE_LAYERS, LAYER_NAME, LAYER_FEATURES, LAYER_KEYS, LAYER_VALUES, LAYER_EXTENT, LAYER_VERSION}
use Rattle.mvt_layer.specs.declared.field_numbers.TheConstants.{FEATURE_ID, FEATURE_TAGS, FEATURE_TYPE, FEATURE_GEOMETRY}
use Rattle.mvt_layer.specs.declared.field_numbers.TheConstants.{STRING_VALUE, FLOAT_VALUE, DOUBLE_VALUE, INT_VALUE, UINT_VALUE, SINT_VALUE, BOOL_VALUE}
use Rattle.mvt_layer.specs.declared.field_numbers.TheConstants.{UNKNOWN_TYPE, POINT_TYPE, LINESTRING_TYPE, POLYGON_TYPE}

pub default_extent_is : DEFAULT_EXTENT ≡ 4096
default_extent_is = refl

pub default_version_is : DEFAULT_VERSION ≡ 1
default_version_is = refl

pub current_version_is : CURRENT_VERSION ≡ 2
current_version_is = refl

pub tile_layers_is : TILE_LAYERS ≡ 3
tile_layers_is = refl

pub layer_name_is : LAYER_NAME ≡ 1
layer_name_is = refl

pub layer_features_is : LAYER_FEATURES ≡ 2
layer_features_is = refl

pub layer_keys_is : LAYER_KEYS ≡ 3
layer_keys_is = refl

pub layer_values_is : LAYER_VALUES ≡ 4
layer_values_is = refl

pub layer_extent_is : LAYER_EXTENT ≡ 5
layer_extent_is = refl

pub layer_version_is : LAYER_VERSION ≡ 15
layer_version_is = refl

pub feature_id_is : FEATURE_ID ≡ 1
feature_id_is = refl

pub feature_tags_is : FEATURE_TAGS ≡ 2
feature_tags_is = refl

pub feature_type_is : FEATURE_TYPE ≡ 3
feature_type_is = refl

pub feature_geometry_is : FEATURE_GEOMETRY ≡ 4
feature_geometry_is = refl

pub string_value_is : STRING_VALUE ≡ 1
string_value_is = refl

pub float_value_is : FLOAT_VALUE ≡ 2
float_value_is = refl

pub double_value_is : DOUBLE_VALUE ≡ 3
double_value_is = refl

pub int_value_is : INT_VALUE ≡ 4
int_value_is = refl

pub uint_value_is : UINT_VALUE ≡ 5
uint_value_is = refl

pub sint_value_is : SINT_VALUE ≡ 6
sint_value_is = refl

pub bool_value_is : BOOL_VALUE ≡ 7
bool_value_is = refl

pub unknown_type_is : UNKNOWN_TYPE ≡ 0
unknown_type_is = refl

pub point_type_is : POINT_TYPE ≡ 1
point_type_is = refl

pub linestring_type_is : LINESTRING_TYPE ≡ 2
linestring_type_is = refl

pub polygon_type_is : POLYGON_TYPE ≡ 3
polygon_type_is = refl
