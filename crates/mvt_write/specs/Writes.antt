-- What a layer that is being written holds.
use Rattle.std.specs.Prelude.{◌≡◌, ℕ, List, ◌++◌}
use Rattle.std.specs.List.{flat_map}
use Rattle.pb_wire.specs.Varint.{varint}
use Rattle.mvt_layer.specs.declared.field_numbers.TheConstants.{LAYER_NAME, LAYER_FEATURES}
use Rattle.mvt_layer.specs.declared.layers.TheConstants.{CURRENT_VERSION, DEFAULT_EXTENT}
use Rattle.mvt_layer.specs.Tile.{Tagged, FeatureView, LayerView}
use Rattle.mvt_write.specs.declared.layer_writer.LayerWriter.{LayerWriter}
use Rattle.mvt_write.specs.Held.{held_keys, held_values}
use Rattle.mvt_write.specs.Pools.{pool_of}
use Rattle.mvt_write.specs.Written.{bytes_field, tag_indices, feature_written, tags_of, keys_used, values_used}

-- the fields of features, with the pools of their layer
abbrev pub features_written : List (List ℕ) → List (List ℕ) → List FeatureView → List ℕ
features_written keys values fs = flat_map (λ f. bytes_field LAYER_FEATURES (feature_written keys values f)) fs

-- the layer of this name with these features, as every layer is written
abbrev pub layer_of : List ℕ → List FeatureView → LayerView
layer_of name fs = record { name = name; version = CURRENT_VERSION; extent = DEFAULT_EXTENT; features = fs }

-- the writer has the layer of this name with these features, and these tags of the feature that comes next
pub record Writes (w : LayerWriter) (name : List ℕ) (fs : List FeatureView) (tags : List Tagged) : Type 0 where
  pub keys : held_keys w.pools.value ≡ pool_of (keys_used (tags_of fs ++ tags))
  pub values : held_values w.pools.value ≡ pool_of (values_used (tags_of fs ++ tags))
  -- entries that are added later change nothing
  pub indices : (later_keys later_values : List (List ℕ))
      → w.tags.items ≡ flat_map varint (tag_indices (held_keys w.pools.value ++ later_keys) (held_values w.pools.value ++ later_values) tags)
  pub bytes : (later_keys later_values : List (List ℕ))
      → w.bytes.items ≡ bytes_field LAYER_NAME name ++ features_written (held_keys w.pools.value ++ later_keys) (held_values w.pools.value ++ later_values) fs
