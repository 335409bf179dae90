-- The layers of a tile.
use Rattle.std.specs.Prelude.{◌≡◌, ℕ, ◌<◌, ◌^◌, ◌&&◌, Bool, nat_le, nat_lt, List, [], ◌∷◌, ◌++◌, length, map, All, Contains}
use Rattle.std.specs.Prelude.{Option, Some, None, IsSome, option_map, filter_map, if◌then◌else◌}
use Rattle.std.specs.Ordering.{nat_cmp, match_ordering}
use Rattle.std.specs.Str.{bytes_eq}
use Rattle.std.specs.Cmp.Lexicographic.{slice_cmp}
use Rattle.std.specs.List.Sorted.{IsStrictlySortedBy}
use Rattle.feature_model.specs.Data.{FeatureData}
use Rattle.feature_model.specs.declared.limits.TheConstants.{MAX_ZOOM}
use Rattle.mvt_layer.specs.declared.layers.TheConstants.{CURRENT_VERSION, DEFAULT_EXTENT}
use Rattle.mvt_layer.specs.Tile.{FeatureView, LayerView}
use Rattle.geometry_commands.specs.Shapes.{ShapeView}
use Rattle.tile_cutter.specs.Cut.{feature_cut, shown_with}
use Rattle.feature_store.specs.Store.{FeatureMap}

-- a feature with this number and this shape
abbrev pub numbered : ℕ → FeatureData → ShapeView → FeatureView
numbered id f shape = record (shown_with f.tags shape) { id = Some id }

-- the features of each name, with one more for the name of its layer
abbrev pub added_to : (List ℕ → List FeatureView) → List ℕ → FeatureView → List ℕ → List FeatureView
added_to fs layer f name = if bytes_eq layer name then fs name ++ f ∷ [] else fs name

-- what the tile shows of a feature, with its number as id
abbrev pub numbered_cut : ℕ → ℕ → ℕ → ℕ × FeatureData → Option FeatureView
numbered_cut z x y e = option_map (λ (f : FeatureView). record f { id = Some e.0 }) (feature_cut e.1 z x y)

-- the same, where the feature is of the layer with this name
abbrev pub cut_for : List ℕ → ℕ → ℕ → ℕ → ℕ × FeatureData → Option FeatureView
cut_for name z x y e = if bytes_eq e.1.layer name then numbered_cut z x y e else None

-- what the tile shows of the features of this layer, in the order of the map
abbrev pub cuts_of : FeatureMap → List ℕ → ℕ → ℕ → ℕ → List FeatureView
cuts_of m name z x y = filter_map (cut_for name z x y) m

-- ---- the list of them

-- names that ascend byte by byte, with one more among them, where it isn't there
abbrev pub with_name : List ℕ → List (List ℕ) → List (List ℕ)
with_name n [] = n ∷ []
with_name n (k ∷ ks) = match_ordering (slice_cmp nat_cmp n k) (n ∷ k ∷ ks) (k ∷ ks) (k ∷ with_name n ks)

-- the names of the layers of a map, each once, ascending byte by byte
abbrev pub layer_names : FeatureMap → List (List ℕ)
layer_names [] = []
layer_names (e ∷ m) = with_name e.1.layer (layer_names m)

-- a layer of these features, and none where there is no feature
abbrev pub layer_with : List ℕ → List FeatureView → Option LayerView
layer_with name [] = None
layer_with name (f ∷ fs) = Some (record { name = name; version = CURRENT_VERSION; extent = DEFAULT_EXTENT; features = f ∷ fs })

-- a tile of a zoom that a map has
abbrev pub is_tile : ℕ → ℕ → ℕ → Bool
is_tile z x y = nat_le z MAX_ZOOM && (nat_lt x (2 ^ z) && nat_lt y (2 ^ z))

-- The layers of a tile: for each layer of the map all that the tile shows of it, and none where that is nothing. Where
-- the map has no such tile there are none.
unfoldable pub layers : FeatureMap → ℕ → ℕ → ℕ → List LayerView
layers m z x y = if is_tile z x y then filter_map (λ name. layer_with name (cuts_of m name z x y)) (layer_names m) else []

-- ---- the same, as what is true of them

-- the names of layers
abbrev pub names_of : List LayerView → List (List ℕ)
names_of ls = map (λ l. l.name) ls

-- a layer of which the tile shows something: all that it shows of it
pub record IsLayer (m : FeatureMap) (z x y : ℕ) (l : LayerView) : Type 0 where
  pub version : l.version ≡ CURRENT_VERSION
  pub extent : l.extent ≡ DEFAULT_EXTENT
  pub some : 0 < length l.features
  pub cuts : l.features ≡ cuts_of m l.name z x y

-- the layers of a tile of the map: names ascend byte by byte, and a feature of which the tile shows something has its layer
pub record AreLayers (m : FeatureMap) (z x y : ℕ) (ls : List LayerView) : Type 0 where
  pub ascending : IsStrictlySortedBy (slice_cmp nat_cmp) (names_of ls)
  pub layers : All (IsLayer m z x y) ls
  pub every : All (λ e. IsSome (feature_cut e.1 z x y) → Contains (names_of ls) e.1.layer) m
