-- What a path asks for: the route that the router finds, and the numbers in its place.
use Rattle.std.specs.Prelude.{◌≡◌, ⊤, ℕ, ◌-◌, ◌^◌, ◌&&◌, Bool, true, false, if◌then◌else◌, nat_lt, nat_le, nat_eq}
use Rattle.std.specs.Prelude.{List, [], ◌∷◌, length, take, drop, codes, Option, Some, None, Result, Ok, Err}
use Rattle.std.specs.Cmp.Lexicographic.{pointwise}
use Rattle.std.specs.List.{list_all}
use Rattle.std.specs.Char.{is_ascii}
use Rattle.matchit.specs.Rows.{RowsOf}
use Rattle.matchit.specs.Order.{placed}
use Rattle.matchit.specs.Route.{parse_route, Scan}
use Rattle.matchit.specs.Router.{RouteOf, route_from, nearest}
use Rattle.matchit.specs.Params.{walk, named}
use Rattle.matchit.specs.Seek.{first}
use Rattle.matchit.specs.declared.error.InsertError.{InsertError}
use Rattle.feature_model.specs.declared.feature.WorldBox.{WorldBox}
use Rattle.feature_model.specs.declared.limits.TheConstants.{MAX_ZOOM}
use Rattle.tile_routes.specs.declared.access.Access.{Access}
use Rattle.tile_routes.specs.declared.access.Access.TheVariants.{Map, Admin}
use Rattle.tile_routes.specs.declared.routes.Route.{Route}
use Rattle.tile_routes.specs.declared.routes.Route.TheVariants as routes
use Rattle.tile_routes.specs.declared.target.Action.{Action}
use Rattle.tile_routes.specs.declared.target.Action.TheVariants as actions
use Rattle.tile_routes.specs.declared.target.TileFormat.{TileFormat}
use Rattle.tile_routes.specs.declared.target.TileFormat.TheVariants.{Mvt, Hex}
use Rattle.tile_routes.specs.declared.target.View.{View}
use Rattle.tile_routes.specs.declared.target.View.TheVariants as views
use Rattle.tile_routes.specs.Boxes.{box_of}
use Rattle.tile_routes.specs.Number.{number_of}

-- the rows with a route's text in its place
abbrev pub with_scan : Result Scan InsertError → Route → RowsOf (RouteOf Route) → RowsOf (RouteOf Route)
with_scan (Ok scan) route rows = placed ((route_from scan route).pattern, route_from scan route) rows
with_scan (Err error) route rows = rows

unfoldable pub with_route : List ℕ → Route → RowsOf (RouteOf Route) → RowsOf (RouteOf Route)
with_route text route rows = with_scan (parse_route text) route rows

abbrev pub with_routes : List (List ℕ × Route) → RowsOf (RouteOf Route) → RowsOf (RouteOf Route)
with_routes [] rows = rows
with_routes (path ∷ more) rows = with_routes more (with_route path.0 path.1 rows)

-- a route's text can be read, and no row conflicts with it
abbrev pub Fits : Result Scan InsertError → RowsOf (RouteOf Route) → Type 0
Fits (Ok scan) rows = nearest scan.pattern rows ≡ None
Fits (Err error) rows = ⊥

-- each path fits the rows of those before it
abbrev pub AllFit : List (List ℕ × Route) → RowsOf (RouteOf Route) → Type 0
AllFit [] rows = ⊤
AllFit (path ∷ more) rows = Fits (parse_route path.0) rows × AllFit more (with_route path.0 path.1 rows)

-- the paths that are served, those under /admin/ only if the server serves them
unfoldable pub served_paths : List (List ℕ × Route)
served_paths =
    (codes "/map/{z}/{x}/{y}", routes.Tile)
    ∷ (codes "/map/metadata", routes.View views.Metadata)
    ∷ (codes "/map.pmtiles", routes.View views.Archive)
    ∷ (codes "/features/{id}", routes.Feature)
    ∷ (codes "/edits", routes.Action actions.Edits)
    ∷ (codes "/publish", routes.Action actions.Publish)
    ∷ (codes "/publish/begin", routes.Action actions.PublishBegin)
    ∷ (codes "/publish/step", routes.Action actions.PublishStep)
    ∷ (codes "/publish/cancel", routes.Action actions.PublishCancel)
    ∷ (codes "/admin/status", routes.View views.Status)
    ∷ (codes "/admin/features/from/{id}", routes.FeatureFrom)
    ∷ (codes "/admin/features/page/{id}", routes.FeaturePage)
    ∷ (codes "/admin/features/box/{box}/from/{id}", routes.FeatureBox)
    ∷ (codes "/admin/edits", routes.Action actions.CheckedEdits)
    ∷ (codes "/admin/edits/from/{number}", routes.EditsFrom)
    ∷ (codes "/admin/edits/at/{number}", routes.EditsAt)
    ∷ (codes "/admin/features/{id}/at/{number}", routes.FeatureAt)
    ∷ []

-- these, as the router keeps them
unfoldable pub served_rows : RowsOf (RouteOf Route)
served_rows = with_routes served_paths []

-- what a path asks for
pub data Asked : Type 0 where
  asked_tile : ℕ → ℕ → ℕ → TileFormat → Asked
  asked_feature : ℕ → Asked
  -- the first feature with this number or a greater one
  asked_from : ℕ → Asked
  -- a page of the features from this number on
  asked_page : ℕ → Asked
  -- a page of those whose bounding boxes meet this box
  asked_box : WorldBox → ℕ → Asked
  -- the edits from this number on
  asked_edits : ℕ → Asked
  -- an edit, if it gets this number
  asked_numbered : ℕ → Asked
  -- the feature with this id is set, if the edit gets this number
  asked_numbered_feature : (id number : ℕ) → Asked
  asked_view : View → Asked
  asked_action : Action → Asked
  asked_nothing : Asked

abbrev pub ends_as : List ℕ → List ℕ → Bool
ends_as ending text = pointwise nat_eq (drop (length text - length ending) text) ending

-- the text before the ending
abbrev pub stem : List ℕ → List ℕ → List ℕ
stem ending text = take (length text - length ending) text

-- a row's text before its ending, and the format that the ending names
abbrev pub row_and_format : List ℕ → Option (List ℕ × TileFormat)
row_and_format name =
    if ends_as (codes ".mvt") name then Some (stem (codes ".mvt") name, Mvt)
    else (if ends_as (codes ".hex") name then Some (stem (codes ".hex") name, Hex) else None)

abbrev pub feature_asked : Option ℕ → Asked
feature_asked None = asked_nothing
feature_asked (Some id) = asked_feature id

-- a zoom up to the greatest, with a column and a row below 2 ^ zoom
abbrev pub is_served : ℕ → ℕ → ℕ → Bool
is_served z x y = nat_le z MAX_ZOOM && (nat_lt x (2 ^ z) && nat_lt y (2 ^ z))

abbrev pub from_asked : Option ℕ → Asked
from_asked None = asked_nothing
from_asked (Some id) = asked_from id

abbrev pub page_asked : Option ℕ → Asked
page_asked None = asked_nothing
page_asked (Some id) = asked_page id

abbrev pub box_asked : Option WorldBox → Option ℕ → Asked
box_asked (Some bounds) (Some id) = asked_box bounds id
box_asked (Some bounds) None = asked_nothing
box_asked None id = asked_nothing

abbrev pub edits_asked : Option ℕ → Asked
edits_asked None = asked_nothing
edits_asked (Some number) = asked_edits number

abbrev pub numbered_asked : Option ℕ → Asked
numbered_asked None = asked_nothing
numbered_asked (Some number) = asked_numbered number

abbrev pub numbered_feature_asked : Option ℕ → Option ℕ → Asked
numbered_feature_asked (Some id) (Some number) = asked_numbered_feature id number
numbered_feature_asked (Some id) None = asked_nothing
numbered_feature_asked None number = asked_nothing

abbrev pub tile_asked : Option ℕ → Option ℕ → Option ℕ → TileFormat → Asked
tile_asked (Some z) (Some x) (Some y) format =
    if is_served z x y then asked_tile z x y format else asked_nothing
tile_asked (Some z) (Some x) None format = asked_nothing
tile_asked (Some z) None y format = asked_nothing
tile_asked None x y format = asked_nothing

abbrev pub named_tile : Option ℕ → Option ℕ → Option (List ℕ × TileFormat) → Asked
named_tile z x None = asked_nothing
named_tile z x (Some row) = tile_asked z x (number_of row.0) row.1

-- the part of a path with this name, or no bytes if there is none
abbrev pub part_named : List ℕ → List (List ℕ × List ℕ) → List ℕ
part_named name parts = text_or_nothing (named name parts)
  where
    text_or_nothing : Option (List ℕ) → List ℕ
    text_or_nothing None = []
    text_or_nothing (Some text) = text

-- what the parts of a path on a route ask for
abbrev pub asked_on : Route → List (List ℕ × List ℕ) → Asked
asked_on routes.Tile parts =
    named_tile (number_of (part_named (codes "z") parts)) (number_of (part_named (codes "x") parts)) (row_and_format (part_named (codes "y") parts))
asked_on routes.Feature parts = feature_asked (number_of (part_named (codes "id") parts))
asked_on routes.FeatureFrom parts = from_asked (number_of (part_named (codes "id") parts))
asked_on routes.FeaturePage parts = page_asked (number_of (part_named (codes "id") parts))
asked_on routes.FeatureBox parts = box_asked (box_of (part_named (codes "box") parts)) (number_of (part_named (codes "id") parts))
asked_on routes.EditsFrom parts = edits_asked (number_of (part_named (codes "number") parts))
asked_on routes.EditsAt parts = numbered_asked (number_of (part_named (codes "number") parts))
asked_on routes.FeatureAt parts =
    numbered_feature_asked (number_of (part_named (codes "id") parts)) (number_of (part_named (codes "number") parts))
asked_on (routes.View view) parts = asked_view view
asked_on (routes.Action action) parts = asked_action action

abbrev pub asked_at : Option (RouteOf Route) → List ℕ → Asked
asked_at None path = asked_nothing
asked_at (Some route) path = asked_on route.value (walk route.pattern route.text path route.names 0 0)

-- what a path asks for; paths are ASCII
unfoldable pub asked_by : List ℕ → Asked
asked_by path = if list_all is_ascii path then asked_at (first served_rows path) path else asked_nothing

-- ---- who may ask

-- a path under /admin/
abbrev pub is_admin : Asked → Bool
is_admin (asked_from id) = true
is_admin (asked_page id) = true
is_admin (asked_box bounds id) = true
is_admin (asked_edits number) = true
is_admin (asked_numbered number) = true
is_admin (asked_numbered_feature id number) = true
is_admin (asked_view views.Status) = true
is_admin (asked_action actions.CheckedEdits) = true
is_admin asked = false

-- what is asked for at a path, where it is served
abbrev pub granted : Access → Asked → Asked
granted Admin asked = asked
granted Map asked = if is_admin asked then asked_nothing else asked
