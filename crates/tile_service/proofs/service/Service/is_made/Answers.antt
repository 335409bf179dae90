use Rattle.std.proofs.Common.{◌≡◌, ℕ, subst}
use Rattle.tile_cache.specs.Touched.{shown_box}
use Rattle.tile_cache.specs.declared.touch_grid.TheConstants.{WIDE_LEVELS}
use Rattle.tile_cache.proofs.Numbers.{newest_once}
use Rattle.tile_service.specs.Inside.{service_view}
use Rattle.tile_service.specs.Making.{is_made}
use Rattle.tile_service.proofs.service.Service.is_made.Goals as goal

pub returns : goal.returns
returns g c =
    let at = c.args.at in let service = service_view c.self.inside in
    rw (← c.self.view_is)
    (λ newest is. subst (λ (n : ℕ). c.is_made_after.result ≡ is_made service n at.z at.x at.y)
    (newest_once WIDE_LEVELS service.touched (shown_box at.z at.x at.y) c.newest.result newest c.newest.ensures.of_cells is)
    (rw (← c.self.view_is) at c.is_made_after.ensures))
