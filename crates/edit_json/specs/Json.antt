-- The one JSON value of a feature. `Data` keeps the members of an object in the order of their names' bytes.
use Prim.Native.String.{String}
use Rattle.std.specs.Prelude.{ℕ, List, [], ◌∷◌, map, codes}
use Rattle.serde_json.specs.Data.{unsigned, negative, Data, boolean, number, string, array, object, Items, Members, no_members, member}
use Rattle.serde_json.specs.View.{items_of}
use Rattle.feature_model.specs.declared.feature.World.{World}
use Rattle.feature_model.specs.Data.{GeometryData, world_points, world_lines, world_polygons, ValueData, text_value}
use Rattle.feature_model.specs.Data.{natural_value, negative_value, truth_value, TagData, FeatureData}

-- ---- the names of the members

-- the bytes of a name
unfoldable pub name_bytes : String → List ℕ
name_bytes name = codes name

-- ---- geometry

-- a point is `[x,y]`
abbrev pub point_json : World → Data
point_json p = array (items_of (number (unsigned p.x) ∷ number (unsigned p.y) ∷ []))

-- a line and a ring are the list of their points
abbrev pub points_json : List World → Data
points_json points = array (items_of (map point_json points))

-- a polygon is the list of its rings
abbrev pub lines_json : List (List World) → Data
lines_json lines = array (items_of (map points_json lines))

abbrev pub polygons_json : List (List (List World)) → Data
polygons_json polygons = array (items_of (map lines_json polygons))

-- a geometry's kind, with its list in JSON
pub data ShapeData : Type 0 where
  point_list : Items → ShapeData
  line_list : Items → ShapeData
  polygon_list : Items → ShapeData

abbrev pub shape_of : GeometryData → ShapeData
shape_of (world_points points) = point_list (items_of (map point_json points))
shape_of (world_lines lines) = line_list (items_of (map points_json lines))
shape_of (world_polygons polygons) = polygon_list (items_of (map lines_json polygons))

-- the list under the name of its kind
abbrev pub shape_json : ShapeData → Data
shape_json (point_list ds) = object (member (name_bytes "points") (array ds) no_members)
shape_json (line_list ds) = object (member (name_bytes "lines") (array ds) no_members)
shape_json (polygon_list ds) = object (member (name_bytes "polygons") (array ds) no_members)

-- ---- tags

abbrev pub value_json : ValueData → Data
value_json (text_value t) = string t
value_json (natural_value n) = number (unsigned n)
value_json (negative_value z) = number (negative z)
value_json (truth_value b) = boolean b

-- a member for each tag
abbrev pub tags_json : List TagData → Members
tags_json [] = no_members
tags_json (t ∷ ts) = member t.key (value_json t.value) (tags_json ts)

-- ---- features

-- a feature whose list and tags are still in JSON
pub record OutlineData : Type 0 where
  pub layer : List ℕ
  pub minzoom : ℕ
  pub maxzoom : ℕ
  pub shape : ShapeData
  pub tags : Members

abbrev pub outline_json : OutlineData → Data
outline_json o = object
    (member (name_bytes "geometry") (shape_json o.shape)
    (member (name_bytes "layer") (string o.layer)
    (member (name_bytes "maxzoom") (number (unsigned o.maxzoom))
    (member (name_bytes "minzoom") (number (unsigned o.minzoom))
    (member (name_bytes "tags") (object o.tags)
    no_members)))))

abbrev pub outline_of : FeatureData → OutlineData
outline_of f = record {
  layer = f.layer;
  minzoom = f.minzoom;
  maxzoom = f.maxzoom;
  shape = shape_of f.geometry;
  tags = tags_json f.tags;
}

-- the one JSON value of a feature
abbrev pub json_of : FeatureData → Data
json_of f = outline_json (outline_of f)
