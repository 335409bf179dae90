-- What a tile shows, gathered by the names of layers.
use Rattle.std.specs.Prelude.{◌≡◌, ℕ, ◌<◌, List, [], length, map, Option, Some, None, String}
use Rattle.std.specs.BTreeMap.{BTreeMap, get_by_text}
use Rattle.std.specs.Global.{Global}
use Rattle.std.specs.String.{string_bytes}
use Rattle.mvt_layer.specs.Tile.{FeatureView, LayerView}
use Rattle.mvt_write.specs.declared.layer_writer.LayerWriter.{LayerWriter}
use Rattle.mvt_write.specs.Writes as layers
use Rattle.mvt_write.specs.Writes.{Writes}

-- a layer that is being written, by its name
abbrev pub Gathered : Type 0
Gathered = BTreeMap (String Global) LayerWriter

-- the writer of a name, if there is one, has these features, and there is one if there are any
abbrev pub IsGathered : Option LayerWriter → List ℕ → List FeatureView → Type 0
IsGathered None name fs = fs ≡ []
IsGathered (Some w) name fs = (0 < length fs) × Writes w name fs []

-- for each name, what is gathered has these features
abbrev pub Gathers : Gathered → (List ℕ → List FeatureView) → Type 0
Gathers g fs = (name : List ℕ) → IsGathered (get_by_text g name) name (fs name)

-- a name has features, and the writer of its layer has these
abbrev pub HasWritten : (List ℕ → List FeatureView) → String Global × LayerWriter → Type 0
HasWritten fs e = (0 < length (fs (string_bytes e.0))) × Writes e.1 (string_bytes e.0) (fs (string_bytes e.0)) []

-- a name and its features as a layer
abbrev pub layer_of : (List ℕ → List FeatureView) → String Global × LayerWriter → LayerView
layer_of fs e = layers.layer_of (string_bytes e.0) (fs (string_bytes e.0))

-- the layers of what is gathered
abbrev pub layers_of : (List ℕ → List FeatureView) → Gathered → List LayerView
layers_of fs g = map (layer_of fs) g.entries
