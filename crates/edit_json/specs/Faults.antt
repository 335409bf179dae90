-- What a JSON value says of a feature: that it is the feature's value, or the first fault that it has.
use Rattle.std.specs.Prelude.{◌≡◌, ℕ, ◌<◌, ◌≤◌, List, [], ◌∷◌, length, All}
use Rattle.serde_json.specs.Data.{Data, Members, no_members, member}
use Rattle.feature_model.specs.declared.limits.TheConstants.{MAX_TAGS}
use Rattle.feature_model.specs.declared.fault.EditFault.{EditFault}
use Rattle.feature_model.specs.declared.fault.EditFault.TheVariants as faults
use Rattle.feature_model.specs.Data.{GeometryData, TagData, FeatureData}
use Rattle.feature_model.specs.Limits.{IsName, AreZooms, LayerFits, ZoomsFit, GeometryFits, TagsFit, ValuesFit}
use Rattle.feature_model.specs.Types.{LiesInWorld}
use Rattle.edit_json.specs.Json.{shape_of, tags_json, OutlineData, outline_json, json_of}

-- ---- a feature's value

-- the value is the feature's, which keeps to the limits of the map
pub record IsFeature (d : Data) (f : FeatureData) : Type 0 where
  pub is : d ≡ json_of f
  pub layer : LayerFits f
  pub zooms : ZoomsFit f
  pub geometry : GeometryFits f.geometry
  pub world : LiesInWorld f.geometry
  pub tags : TagsFit f.tags
  pub values : ValuesFit f.tags

-- ---- the faults

-- the value has these members of a feature and no other, each of its kind
pub record IsOutline (d : Data) (o : OutlineData) : Type 0 where
  pub is : d ≡ outline_json o
  pub low : o.minzoom < 256
  pub high : o.maxzoom < 256

abbrev pub HasOutline : Data → (OutlineData → Type 0) → Type 0
HasOutline d P = (o : OutlineData) × IsOutline d o × P o

abbrev pub NameFits : OutlineData → Type 0
NameFits o = IsName o.layer

abbrev pub RangeFits : OutlineData → Type 0
RangeFits o = AreZooms o.minzoom o.maxzoom

-- the list is that of a geometry
abbrev pub HasGeometry : OutlineData → Type 0
HasGeometry o = (g : GeometryData) × (o.shape ≡ shape_of g) × GeometryFits g × LiesInWorld g

abbrev pub names_of : Members → List (List ℕ)
names_of no_members = []
names_of (member name d ms) = name ∷ names_of ms

-- the tags are few, and their keys are names; an object's names ascend
abbrev pub HasKeys : OutlineData → Type 0
HasKeys o = (length (names_of o.tags) ≤ MAX_TAGS) × All IsName (names_of o.tags)

-- each member is a tag
abbrev pub HasTags : OutlineData → Type 0
HasTags o = (tags : List TagData) × (o.tags ≡ tags_json tags) × ValuesFit tags

-- The fault is the value's, and none before it is. Memory is asked for only after the members, the name and the zooms are tested.
abbrev pub IsFirstJsonFault : Data → EditFault → Type 0
IsFirstJsonFault d faults.Member = (o : OutlineData) → ¬ IsOutline d o
IsFirstJsonFault d faults.Layer = HasOutline d (λ o. ¬ NameFits o)
IsFirstJsonFault d faults.Zoom = HasOutline d (λ o. NameFits o × ¬ RangeFits o)
IsFirstJsonFault d faults.Geometry = HasOutline d (λ o. NameFits o × RangeFits o × ¬ HasGeometry o)
IsFirstJsonFault d faults.Tags = HasOutline d (λ o. NameFits o × RangeFits o × HasGeometry o × ¬ HasKeys o)
IsFirstJsonFault d faults.Value = HasOutline d (λ o.
    NameFits o × RangeFits o × HasGeometry o × HasKeys o × ¬ HasTags o)
IsFirstJsonFault d faults.Memory = HasOutline d (λ o. NameFits o × RangeFits o)
-- no other fault is returned
IsFirstJsonFault d _ = ⊥
