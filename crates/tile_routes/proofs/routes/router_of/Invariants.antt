use Rattle.std.proofs.Common.{◌≡◌, [], map, drop}
use Rattle.tile_routes.specs.Paths.{with_routes, AllFit}
use Rattle.tile_routes.specs.Targets.{row_path}
use Rattle.tile_routes.proofs.routes.router_of.Given as goal

abbrev pub invariant-loop-path : goal.invariant-loop-path
invariant-loop-path l = record {
  rows : with_routes (map row_path (drop l.path-index l.rows)) l.router ≡ with_routes (map row_path l.rows) [];
  fit : AllFit (map row_path (drop l.path-index l.rows)) l.router;
}
