-- What the types of a feature promise of its values, and the changes and edits that keep the limits too.
use Rattle.std.specs.Prelude.{◌<◌, ◌^◌, All, FitsSigned}
use Rattle.std.specs.Int.{w64}
use Rattle.std.specs.Str.{IsUtf8}
use Rattle.feature_model.specs.declared.feature.World.{World}
use Rattle.feature_model.specs.Data.{GeometryData, world_points, world_lines, world_polygons, ValueData, text_value, natural_value, negative_value, truth_value}
use Rattle.feature_model.specs.Data.{TagData, FeatureData, ChangeData, put, delete, EditData}
use Rattle.feature_model.specs.Limits.{NumberFits, IsAllowed, IsAllowedEdit}

-- a point of the world, which is 2^32 wide and high
abbrev pub IsOfWorld : World → Type 0
IsOfWorld p = (p.x < 2 ^ 32) × (p.y < 2 ^ 32)

-- each point of the geometry is one of the world
abbrev pub LiesInWorld : GeometryData → Type 0
LiesInWorld (world_points points) = All IsOfWorld points
LiesInWorld (world_lines lines) = All (All IsOfWorld) lines
LiesInWorld (world_polygons polygons) = All (All (All IsOfWorld)) polygons

-- a text is UTF-8, and 64 bits hold a number
abbrev pub ValueFitsTypes : ValueData → Type 0
ValueFitsTypes (text_value bytes) = IsUtf8 bytes
ValueFitsTypes (natural_value n) = n < 2 ^ 64
ValueFitsTypes (negative_value z) = FitsSigned w64 z
ValueFitsTypes (truth_value b) = Unit {0}

pub record TagFitsTypes (t : TagData) : Type 0 where
  pub key : IsUtf8 t.key
  pub value : ValueFitsTypes t.value

-- its texts are UTF-8, its points are of the world, and 64 bits hold its numbers
pub record FeatureFitsTypes (f : FeatureData) : Type 0 where
  pub layer : IsUtf8 f.layer
  pub geometry : LiesInWorld f.geometry
  pub tags : All TagFitsTypes f.tags

abbrev pub ChangeFitsTypes : ChangeData → Type 0
ChangeFitsTypes (put id f) = FeatureFitsTypes f
ChangeFitsTypes (delete id) = Unit {0}

-- a change within the limits, as its types promise
abbrev pub IsChange : ChangeData → Type 0
IsChange (put id f) = IsAllowed id f × FeatureFitsTypes f
IsChange (delete id) = NumberFits id

-- the same of an edit
pub record IsEdit (cs : EditData) : Type 0 where
  pub allowed : IsAllowedEdit cs
  pub changes : All IsChange cs
