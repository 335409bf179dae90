-- What a layer's fields make, where each of them was read or met a fault.
use Rattle.std.specs.Prelude.{ℕ, List}
use Rattle.std.specs.Option.{option_map}
use Rattle.reader.specs.Reading.{Read, ◌>>=◌}
use Rattle.mvt_layer.specs.declared.fault.TileFault.{TileFault}
use Rattle.mvt_layer.specs.declared.layer_fields.LayerFields.{LayerFields}
use Rattle.mvt_layer.specs.Tile.{bytes_of, LayerView}
use Rattle.mvt_layer.specs.Reading.{onward, text_at, tag_value_at, feature_at, each_in, name_at, version_at, extent_at, layer_made}

-- the layer of this name, version and extent
abbrev pub featured : List ℕ → ℕ → ℕ → LayerFields → Read TileFault LayerView
featured name version extent fields =
    onward (λ v. bytes_of v.items) fields.keys (each_in text_at) >>= λ keys.
    onward (λ v. bytes_of v.items) fields.values (each_in tag_value_at) >>= λ values.
    onward (λ v. bytes_of v.items) fields.features (each_in (feature_at keys values)) >>= λ features.
    layer_made name version extent features

abbrev pub layer_from : LayerFields → Read TileFault LayerView
layer_from fields =
    onward (option_map (λ b. b.now)) fields.name name_at >>= λ name.
    onward (λ n. n) fields.version version_at >>= λ version.
    onward (λ n. n) fields.extent extent_at >>= λ extent.
    featured name version extent fields
