-- Targets without where they lie in memory.
use Rattle.std.specs.Prelude.{ℕ, ◌<◌, ◌≤◌, List}
use Rattle.std.specs.Borrow.{Bor}
use Rattle.matchit.specs.Params.{walk}
use Rattle.matchit.specs.declared.params.Params.{Params}
use Rattle.feature_model.specs.declared.limits.TheConstants.{MAX_ZOOM, NUMBER_END}
use Rattle.tile_routes.specs.declared.routes.Route.{Route}
use Rattle.tile_routes.specs.declared.target.Target.{Target}
use Rattle.tile_routes.specs.declared.target.Target.TheVariants.{Tile, Feature, FeatureFrom, FeaturePage, FeatureBox, EditsFrom, EditsAt, FeatureAt, View, Action}
use Rattle.tile_routes.specs.declared.target.Target.TheVariants.{Nothing}
use Rattle.tile_routes.specs.declared.target.TileFormat.{TileFormat}
use Rattle.tile_routes.specs.Paths.{Asked, asked_tile, asked_feature, asked_from, asked_page, asked_edits, asked_numbered, asked_view, asked_action}
use Rattle.tile_routes.specs.Paths.{asked_box, asked_numbered_feature, asked_nothing}

-- what a target asks for
abbrev pub asked_of : Target → Asked
asked_of (Tile at format) = asked_tile at.z at.x at.y format
asked_of (Feature id) = asked_feature id
asked_of (FeatureFrom id) = asked_from id
asked_of (FeaturePage id) = asked_page id
asked_of (FeatureBox bounds id) = asked_box bounds id
asked_of (EditsFrom number) = asked_edits number
asked_of (EditsAt number) = asked_numbered number
asked_of (FeatureAt id number) = asked_numbered_feature id number
asked_of (View view) = asked_view view
asked_of (Action action) = asked_action action
asked_of Nothing = asked_nothing

-- numbers of features, and a tile up to the greatest zoom
abbrev pub IsInRange : Target → Type 0
IsInRange (Tile at format) = at.z ≤ MAX_ZOOM
IsInRange (Feature id) = id < NUMBER_END
IsInRange (FeatureFrom id) = id < NUMBER_END
IsInRange (FeaturePage id) = id < NUMBER_END
IsInRange (FeatureBox bounds id) = id < NUMBER_END
IsInRange (EditsFrom number) = number < NUMBER_END
IsInRange (EditsAt number) = number < NUMBER_END
IsInRange (FeatureAt id number) = (id < NUMBER_END) × (number < NUMBER_END)
IsInRange other = Unit {0}

-- a path's text with its route
abbrev pub row_path : Bor (List ℕ) × Route → List ℕ × Route
row_path r = (r.0.now, r.1)

abbrev pub row_view : Bor (List ℕ) × TileFormat → List ℕ × TileFormat
row_view r = (r.0.now, r.1)

-- each name of a match with the part of the path that it took
abbrev pub parts_of : Params → List (List ℕ × List ℕ)
parts_of params = walk params.pattern.now params.text.now params.path.now params.names.now 0 0
