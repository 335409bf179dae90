-- What the lists of a geometry are read as.
use Rattle.std.specs.Prelude.{ℕ, ◌^◌, nat_lt, if◌then◌else◌, List, [], ◌∷◌, Option, Some, None, option_and_then, option_map, Ok, Err}
use Rattle.reader.specs.Reading.{Read, ◌>>=◌}
use Rattle.serde_json.specs.Data.{Data, Items, no_items, item}
use Rattle.serde_json.specs.Events.{items_len}
use Rattle.serde_json.specs.Find.{as_u64, as_number, as_array}
use Rattle.feature_model.specs.declared.limits.TheConstants.{MIN_LINE, MIN_RING}
use Rattle.feature_model.specs.declared.fault.EditFault.{EditFault}
use Rattle.feature_model.specs.declared.fault.EditFault.TheVariants as faults
use Rattle.feature_model.specs.declared.feature.World.{World}
use Rattle.feature_model.specs.Data.{GeometryData, world_points, world_lines, world_polygons}
use Rattle.feature_model.specs.Limits.{is_count}
use Rattle.edit_json.specs.Json.{ShapeData, point_list, line_list, polygon_list}

-- a whole number below the limit
unfoldable pub below : ℕ → Data → Option ℕ
below limit d = option_and_then (λ n. if nat_lt n limit then Some n else None) (option_and_then as_u64 (as_number d))

unfoldable pub pair_at : Items → Option World
pair_at no_items = None
pair_at (item a no_items) = None
pair_at (item a (item b no_items)) = option_and_then (λ x. option_map (λ y. record { x = x; y = y }) (below (2 ^ 32) b)) (below (2 ^ 32) a)
pair_at (item a (item b (item c ds))) = None

unfoldable pub point_at : Data → Option World
point_at d = option_and_then pair_at (as_array d)

-- what is found, or the fault of a geometry
abbrev pub in_geometry : {A : Type 0} → Option A → Read EditFault A
in_geometry (Some x) = Ok x
in_geometry None = Err faults.Geometry

abbrev pub point_in : Data → Read EditFault World
point_in d = in_geometry (point_at d)

abbrev pub items_in : Data → Read EditFault Items
items_in d = in_geometry (as_array d)

-- each of the items by `one`
unfoldable pub each : {A : Type 0} → (Data → Read EditFault A) → Items → Read EditFault (List A)
each one no_items = Ok []
each one (item d ds) = one d >>= (λ x. each one ds >>= (λ xs. Ok (x ∷ xs)))

-- a list of at least `least` items, each by `one`
unfoldable pub list_of : {A : Type 0} → ℕ → (Data → Read EditFault A) → Items → Read EditFault (List A)
list_of least one ds = if is_count least (items_len ds) then each one ds else Err faults.Geometry

unfoldable pub points_at : ℕ → Data → Read EditFault (List World)
points_at least d = items_in d >>= list_of least point_in

unfoldable pub lines_at : ℕ → Data → Read EditFault (List (List World))
lines_at least d = items_in d >>= list_of 1 (points_at least)

unfoldable pub geometry_at : ShapeData → Read EditFault GeometryData
geometry_at (point_list ds) = list_of 1 point_in ds >>= (λ points. Ok (world_points points))
geometry_at (line_list ds) = list_of 1 (points_at MIN_LINE) ds >>= (λ lines. Ok (world_lines lines))
geometry_at (polygon_list ds) = list_of 1 (lines_at MIN_RING) ds >>= (λ polygons. Ok (world_polygons polygons))
