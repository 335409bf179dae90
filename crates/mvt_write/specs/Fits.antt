-- What the types of a layer promise of its values.
use Rattle.std.specs.Prelude.{◌<◌, ◌^◌, All, IfSome}
use Rattle.std.specs.Str.{IsUtf8}
use Rattle.pb_wire.specs.Zigzag.{zigzagged}
use Rattle.geometry_commands.specs.Shapes.{kind_of, shape_spelled, IsShape}
use Rattle.mvt_layer.specs.Tile.{TagView, text, natural, negative, Tagged, FeatureView, LayerView}

-- a text is UTF-8, and a whole number has 64 bits
abbrev pub FitsValue : TagView → Type 0
FitsValue (text t) = IsUtf8 t
FitsValue (natural n) = n < 2 ^ 64
FitsValue (negative z) = zigzagged z < 2 ^ 64
FitsValue _ = Unit {0}

pub record FitsTag (t : Tagged) : Type 0 where
  pub key : IsUtf8 t.0
  pub value : FitsValue t.1

-- the integers of the shape have 32 bits, and encode it
pub record FitsFeature (f : FeatureView) : Type 0 where
  pub id : IfSome f.id (λ id. id < 2 ^ 64)
  pub tags : All FitsTag f.tags
  pub integers : All (λ n. n < 2 ^ 32) (shape_spelled f.shape)
  pub shape : IsShape (kind_of f.shape) (shape_spelled f.shape) f.shape

pub record FitsLayer (l : LayerView) : Type 0 where
  pub name : IsUtf8 l.name
  pub features : All FitsFeature l.features
