-- What is written of a feature, as packed integers.
use Rattle.std.specs.Prelude.{◌≡◌, ℕ, [], Option, Some, None}
use Rattle.feature_model.specs.Data.{FeatureData}
use Rattle.geometry_commands.specs.declared.kinds.ShapeKind.{ShapeKind}
use Rattle.geometry_commands.specs.declared.packed.PackedShape.{PackedShape}
use Rattle.geometry_commands.specs.Commands.{origin}
use Rattle.geometry_commands.specs.Encodable.{CanSpell}
use Rattle.geometry_commands.specs.Packed.{Packs}
use Rattle.geometry_commands.specs.Shapes.{ShapeView, kind_of}
use Rattle.tile_cutter.specs.Cut.{feature_cut, shown_with}

-- nothing is written
pub record IsClear (out : PackedShape) : Type 0 where
  pub bytes : out.bytes.items ≡ []
  pub at : out.at ≡ origin

-- the packed integers of a shape of this kind, which can be written, are
pub record IsPut (out : PackedShape) (kind : ShapeKind) (s : ShapeView) : Type 0 where
  pub packed : Packs out s
  pub kind_is : kind ≡ kind_of s
  pub can : CanSpell s

-- what is shown is written, or nothing is shown
abbrev pub HasPut : PackedShape → Option ShapeKind → Option ShapeView → Type 0
HasPut out None None = Unit {0}
HasPut out (Some kind) (Some s) = IsPut out kind s
HasPut out _ _ = ⊥

-- the tile of a zoom, a column and a row shows this shape of the feature, and it is written
pub record Shows (f : FeatureData) (zoom column row : ℕ) (out : PackedShape) (kind : ShapeKind) : Type 0 where
  pub shape : ShapeView
  pub cut : feature_cut f zoom column row ≡ Some (shown_with f.tags shape)
  pub put : IsPut out kind shape
