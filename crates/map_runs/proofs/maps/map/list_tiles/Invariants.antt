use Rattle.std.proofs.Common.{◌≡◌}
use Rattle.map_runs.proofs.maps.map.list_tiles.Given as goal

-- the tiles to come are those of this map
abbrev pub invariant-loop : goal.invariant-loop
invariant-loop l = l.tiles.features ≡ l.store.features
