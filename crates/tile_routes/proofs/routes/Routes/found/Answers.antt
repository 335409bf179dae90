use Rattle.std.proofs.Common.{sym, ◌∙◌}
use Rattle.tile_routes.proofs.Texts.{found-parts}
use Rattle.tile_routes.proofs.TileParts.{found-tile}
use Rattle.tile_routes.proofs.routes.Routes.found.Goals as goal

pub route_target-requires-clause-text : goal.route_target-requires-clause-text
route_target-requires-clause-text c =
    found-parts c.self.inside.router c.in-Ok.found.params c.in-Ok.found.value.now c.args.path.now c.self.invariant
    c.in-Ok.ensures.found c.in-Ok.ensures.path c.requires

pub route_target-requires-clause-tile : goal.route_target-requires-clause-tile
route_target-requires-clause-tile c =
    found-tile c.self.inside.router c.in-Ok.found.params c.in-Ok.found.value.now c.args.path.now c.as_bytes.result.now c.self.invariant
    c.in-Ok.ensures.found (c.in-Ok.ensures.path ∙ sym c.as_bytes.ensures.value)
