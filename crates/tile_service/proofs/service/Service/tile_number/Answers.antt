use Rattle.std.proofs.Common.{◌≤◌, ℕ, subst}
use Rattle.cached_map.specs.Cached.{WasMap}
use Rattle.tile_service.specs.Inside.{service_view}
use Rattle.tile_service.specs.Tags.{TellsNumber}
use Rattle.tile_service.proofs.Tiles.Tags.{is_tag}
use Rattle.tile_service.proofs.service.Service.tile_number.Goals as goal
use Rattle.tile_service.proofs.service.Service.tile_number.Goals.{After-newest}

told : (g : _) (c : After-newest g) → TellsNumber (service_view c.self.inside) c.args.at.z c.args.at.x c.args.at.y c.newest.result
told g c = let inside = c.self.inside in record {
  is = c.newest.ensures.of_cells;
  most = subst (λ (l : ℕ). c.newest.result ≤ l) c.self.invariant.last_is c.newest.ensures.most;
  knows = subst (λ (l : ℕ). WasMap inside.map.features inside.map.touched l l inside.map.features) c.self.invariant.last_is c.newest.ensures.now;
}

pub returns-clause-told : goal.returns-clause-told
returns-clause-told g c = rw (← c.self.view_is) (told g c)

pub returns-clause-tag : goal.returns-clause-tag
returns-clause-tag g c = rw (← c.self.view_is)
    (is_tag g.D.Sectors.sectors g.D.Sectors.honest g.D.Sectors.history (service_view c.self.inside) c.args.at.z c.args.at.x c.args.at.y c.newest.result
    (told g c))
