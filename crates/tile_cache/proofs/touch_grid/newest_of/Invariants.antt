use Rattle.tile_cache.specs.Cells.{IsNewestIn}
use Rattle.tile_cache.proofs.touch_grid.newest_of.Given as goal

-- the levels so far
abbrev pub invariant-loop-level : goal.invariant-loop-level
invariant-loop-level l = IsNewestIn l.level l.cells l.bounds l.newest
