-- What a match of the tiles' route took from the path.
use Rattle.std.proofs.Common.{◌≡◌, ℕ, List, Option, Some, refl, sym, ap, subst, ◌∙◌}
use Rattle.matchit.specs.Rows.{RowsOf}
use Rattle.matchit.specs.Router.{RouteOf}
use Rattle.matchit.specs.Params.{walk}
use Rattle.matchit.specs.Seek.{first}
use Rattle.matchit.specs.declared.params.Params.{Params}
use Rattle.matchit.proofs.OnLiterals.{matchit_on_literals}
use Rattle.tile_routes.specs.declared.routes.Route.{Route}
use Rattle.tile_routes.specs.declared.routes.Route.TheVariants.{Tile}
use Rattle.tile_routes.specs.Paths.{served_paths, served_rows, with_route}
use Rattle.tile_routes.specs.Parts.{IfTile, tile_parts}
use Rattle.tile_routes.specs.Targets.{parts_of}
use Rattle.tile_routes.proofs.Keys.{EachKey, IfKey, seek-key}

-- on the tiles' route the parts of each path are these
HasParts : RouteOf Route → Type 0
HasParts route = IfTile route.value ((path : List ℕ) → walk route.pattern route.text path route.names 0 0 ≡ tile_parts path)

rows-parts : EachKey HasParts served_rows
unfolding matchit_on_literals served_rows served_paths with_route HasParts
rows-parts = (tt, (tt, (tt, (tt, (tt, (tt, (tt, (tt, (tt, (tt, (tt, (tt, (λ path. refl, (tt, (tt, (tt, (tt, tt)))))))))))))))))

parts-of-found : (found : Option (RouteOf Route)) (route : RouteOf Route) → IfKey HasParts found → found ≡ Some route → HasParts route
parts-of-found found route given e = let P : Option (RouteOf Route) → Type 0 = λ o. IfKey HasParts o in subst P e given

at-path : (value : Route) (params : Params) (path : List ℕ) → params.path.now ≡ path
    → IfTile value ((other : List ℕ) → walk params.pattern.now params.text.now other params.names.now 0 0 ≡ tile_parts other)
    → IfTile value (parts_of params ≡ tile_parts path)
at-path Tile params path same has = rw same (has path)
at-path other params path same has = tt

-- what the parameters of a match took, on the tiles' route
pub found-tile : (rows : RowsOf (RouteOf Route)) (params : Params) (value : Route) (path bytes : List ℕ) → rows ≡ served_rows
    → first rows path ≡ Some (record { pattern = params.pattern.now; text = params.text.now; names = params.names.now; value = value })
    → params.path.now ≡ bytes → IfTile value (parts_of params ≡ tile_parts bytes)
unfolding HasParts
found-tile rows params value path bytes kept found same =
    let route : RouteOf Route = record { pattern = params.pattern.now; text = params.text.now; names = params.names.now; value = value } in
    at-path value params bytes same
    (parts-of-found (first served_rows path) route (seek-key HasParts path 0 served_rows rows-parts)
    (sym (ap (λ (r : RowsOf (RouteOf Route)). first r path) kept) ∙ found))
