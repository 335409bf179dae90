use Rattle.std.proofs.Common.{ℕ, ◌<◌, ◌≤◌}
use Rattle.tile_cache.specs.Cells.{cell_at, HasCell, IsZeroOrCell}
use Rattle.tile_cache.proofs.touch_grid.greatest_of.Given as goal

abbrev pub invariant-loop-row : goal.invariant-loop-row
invariant-loop-row l = record {
  reached : (column row : ℕ) → HasCell l.range column row → row < l.row → cell_at l.cells l.level column row ≤ l.newest;
  found : IsZeroOrCell l.cells l.level l.range l.newest;
}
