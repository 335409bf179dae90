-- What views show.
use Rattle.std.specs.Prelude.{List}
use Rattle.feature_model.specs.declared.feature.World.{World}
use Rattle.feature_model.specs.Data.{GeometryData, world_points, world_lines, world_polygons, ValueData, text_value, natural_value}
use Rattle.feature_model.specs.Data.{negative_value, truth_value, TagData, FeatureData}
use Rattle.edit_text.specs.declared.feature.FeatureText.{FeatureText}
use Rattle.edit_text.specs.declared.lists.Points.{Points}
use Rattle.edit_text.specs.declared.lists.Lines.{Lines}
use Rattle.edit_text.specs.declared.lists.Polygons.{Polygons}
use Rattle.edit_text.specs.declared.lists.GeometryText.{GeometryText}
use Rattle.edit_text.specs.declared.lists.GeometryText.TheVariants as kinds
use Rattle.edit_text.specs.declared.tags.Tags.{Tags}
use Rattle.edit_text.specs.declared.tags.TagText.{TagText}
use Rattle.edit_text.specs.declared.tags.ValueText.{ValueText}
use Rattle.edit_text.specs.declared.tags.ValueText.TheVariants as values
use Rattle.edit_text.specs.Trusted.{points_of, each_in, line_in, lines_in, tag_in}

abbrev pub points_view : Points → List World
points_view s = points_of s.rest.now

abbrev pub lines_view : Lines → List (List World)
lines_view s = (each_in line_in s.count s.rest.now).0

abbrev pub polygons_view : Polygons → List (List (List World))
polygons_view s = (each_in lines_in s.count s.rest.now).0

abbrev pub geometry_view : GeometryText → GeometryData
geometry_view (kinds.Points s) = world_points (points_view s)
geometry_view (kinds.Lines s) = world_lines (lines_view s)
geometry_view (kinds.Polygons s) = world_polygons (polygons_view s)

abbrev pub value_view : ValueText → ValueData
value_view (values.Text t) = text_value t.now
value_view (values.Natural n) = natural_value n
value_view (values.Negative z) = negative_value z
value_view (values.Truth b) = truth_value b

abbrev pub tag_view : TagText → TagData
tag_view t = record { key = t.key.now; value = value_view t.value }

abbrev pub tags_view : Tags → List TagData
tags_view s = (each_in tag_in s.count s.rest.now).0

abbrev pub feature_view : FeatureText → FeatureData
feature_view f = record {
  layer = f.layer.now;
  minzoom = f.minzoom;
  maxzoom = f.maxzoom;
  geometry = geometry_view f.geometry;
  tags = tags_view f.tags;
}
