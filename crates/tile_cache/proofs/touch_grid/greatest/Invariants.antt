use Rattle.std.proofs.Common.{ℕ, ◌<◌, ◌≤◌}
use Rattle.tile_cache.specs.Cells.{cell_at, IsZeroOrOneOf}
use Rattle.tile_cache.proofs.touch_grid.greatest.Given as goal

abbrev pub invariant-loop-column : goal.invariant-loop-column
invariant-loop-column l = record {
  reached : (column : ℕ) → l.first ≤ column → column < l.column → cell_at l.cells l.level column l.row ≤ l.newest;
  found : IsZeroOrOneOf l.cells l.level l.row l.first l.end l.newest;
}
