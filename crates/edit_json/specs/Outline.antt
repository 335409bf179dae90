-- The parts of a feature's object, as the reader holds them.
use Rattle.serde_json.specs.View.{items_view, members_view}
use Rattle.edit_json.specs.declared.outline.Shape.{Shape}
use Rattle.edit_json.specs.declared.outline.Shape.TheVariants as shapes
use Rattle.edit_json.specs.declared.outline.Outline.{Outline}
use Rattle.edit_json.specs.Json.{ShapeData, point_list, line_list, polygon_list, OutlineData}

abbrev pub shape_data : Shape → ShapeData
shape_data (shapes.Points list) = point_list (items_view list.now)
shape_data (shapes.Lines list) = line_list (items_view list.now)
shape_data (shapes.Polygons list) = polygon_list (items_view list.now)

abbrev pub outline_data : Outline → OutlineData
outline_data o = record {
  layer = o.layer.now;
  minzoom = o.minzoom;
  maxzoom = o.maxzoom;
  shape = shape_data o.shape;
  tags = members_view o.tags.now.entries;
}
