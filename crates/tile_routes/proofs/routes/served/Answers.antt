use Rattle.tile_routes.specs.Paths.{served_paths}
use Rattle.tile_routes.proofs.Inserts.{served_fit}
use Rattle.tile_routes.proofs.routes.served.Goals as goal

pub router_of-requires : goal.router_of-requires
unfolding served_paths
router_of-requires c = served_fit
