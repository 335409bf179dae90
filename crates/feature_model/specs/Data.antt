-- Features, changes and edits without where they lie in memory.
use Rattle.std.specs.Prelude.{ℕ, ℤ, Bool, List, map}
use Rattle.std.specs.String.{string_bytes}
use Rattle.feature_model.specs.declared.feature.World.{World}
use Rattle.feature_model.specs.declared.feature.Geometry.{Geometry}
use Rattle.feature_model.specs.declared.feature.Geometry.TheVariants as geometries
use Rattle.feature_model.specs.declared.feature.EditValue.{EditValue}
use Rattle.feature_model.specs.declared.feature.EditValue.TheVariants as values
use Rattle.feature_model.specs.declared.feature.Tag.{Tag}
use Rattle.feature_model.specs.declared.feature.Feature.{Feature}
use Rattle.feature_model.specs.declared.feature.Change.{Change}
use Rattle.feature_model.specs.declared.feature.Change.TheVariants as changes
use Rattle.feature_model.specs.declared.feature.Edit.{Edit}

pub data GeometryData : Type 0 where
  world_points : List World → GeometryData
  world_lines : List (List World) → GeometryData
  world_polygons : List (List (List World)) → GeometryData

pub data ValueData : Type 0 where
  text_value : List ℕ → ValueData
  natural_value : ℕ → ValueData
  negative_value : ℤ → ValueData
  truth_value : Bool → ValueData

pub record TagData : Type 0 where
  pub key : List ℕ
  pub value : ValueData

pub record FeatureData : Type 0 where
  pub layer : List ℕ
  pub minzoom : ℕ
  pub maxzoom : ℕ
  pub geometry : GeometryData
  pub tags : List TagData

pub data ChangeData : Type 0 where
  put : ℕ → FeatureData → ChangeData
  delete : ℕ → ChangeData

-- an edit: changes that are made together
abbrev pub EditData : Type 0
EditData = List ChangeData

-- the number that a change is of
abbrev pub number_of : ChangeData → ℕ
number_of (put id f) = id
number_of (delete id) = id

abbrev pub geometry_data : Geometry → GeometryData
geometry_data (geometries.Points ps) = world_points ps.items
geometry_data (geometries.Lines ls) = world_lines (map (λ l. l.items) ls.items)
geometry_data (geometries.Polygons ps) = world_polygons (map (λ p. map (λ r. r.items) p.items) ps.items)

abbrev pub value_data : EditValue → ValueData
value_data (values.Text t) = text_value (string_bytes t)
value_data (values.Natural n) = natural_value n
value_data (values.Negative z) = negative_value z
value_data (values.Truth b) = truth_value b

abbrev pub tag_data : Tag → TagData
tag_data t = record { key = string_bytes t.key; value = value_data t.value }

abbrev pub feature_data : Feature → FeatureData
feature_data f = record {
  layer = string_bytes f.layer;
  minzoom = f.minzoom;
  maxzoom = f.maxzoom;
  geometry = geometry_data f.geometry;
  tags = map tag_data f.tags.items;
}

abbrev pub change_data : Change → ChangeData
change_data (changes.Put id feature) = put id (feature_data feature)
change_data (changes.Delete id) = delete id

abbrev pub edit_data : Edit → EditData
edit_data edit = map change_data edit.changes.items
