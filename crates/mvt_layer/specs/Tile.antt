-- Tiles as values, without their memory.
use Rattle.std.specs.Prelude.{ℕ, ℤ, Bool, List, map, Option}
use Rattle.std.specs.Borrow.{Bor}
use Rattle.geometry_commands.specs.Shapes.{ShapeView, shape_view}
use Rattle.mvt_layer.specs.declared.tile.Layer.{Layer}
use Rattle.mvt_layer.specs.declared.tile.TileFeature.{TileFeature}
use Rattle.mvt_layer.specs.declared.tile.TagValue.{TagValue}
use Rattle.mvt_layer.specs.declared.tile.TagValue.TheVariants as values

pub data TagView : Type 0 where
  text : List ℕ → TagView
  natural : ℕ → TagView
  negative : ℤ → TagView
  truth : Bool → TagView
  float : List ℕ → TagView
  double : List ℕ → TagView

abbrev pub tag_view : TagValue → TagView
tag_view (values.Text t) = text t.now
tag_view (values.Natural n) = natural n
tag_view (values.Negative z) = negative z
tag_view (values.Truth b) = truth b
tag_view (values.Float part) = float part
tag_view (values.Double part) = double part

-- a key and its value
abbrev pub Tagged : Type 0
Tagged = List ℕ × TagView

pub record FeatureView : Type 0 where
  pub id : Option ℕ
  pub tags : List Tagged
  pub shape : ShapeView

pub record LayerView : Type 0 where
  pub name : List ℕ
  pub version : ℕ
  pub extent : ℕ
  pub features : List FeatureView

-- texts or parts as values
abbrev pub bytes_of : List (Bor (List ℕ)) → List (List ℕ)
bytes_of parts = map (λ t. t.now) parts

abbrev pub tag_views : List TagValue → List TagView
tag_views vs = map tag_view vs

abbrev pub tagged : List (Bor (List ℕ) × TagValue) → List Tagged
tagged ts = map (λ t. (t.0.now, tag_view t.1)) ts

abbrev pub feature_view : TileFeature → FeatureView
feature_view f = record { id = f.id; tags = tagged f.tags.items; shape = shape_view f.shape }

abbrev pub layer_view : Layer → LayerView
layer_view l = record { name = l.name.now; version = l.version; extent = l.extent; features = map feature_view l.features.items }

abbrev pub layer_views : List Layer → List LayerView
layer_views ls = map layer_view ls
