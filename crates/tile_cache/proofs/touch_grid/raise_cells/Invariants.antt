use Rattle.std.proofs.Common.{ℕ, ◌<◌, ◌≤◌}
use Rattle.tile_cache.specs.Cells.{cell_at, HasCell, RisesTo, StaysBut, IsOfCells}
use Rattle.tile_cache.proofs.touch_grid.raise_cells.Given as goal

abbrev pub invariant-loop-row : goal.invariant-loop-row
invariant-loop-row l = record {
  rises : RisesTo l.number l.initial.cells l.cells;
  raised : (column row : ℕ) → HasCell l.range column row → row < l.row → l.number ≤ cell_at l.cells l.level column row;
  stays : StaysBut (IsOfCells l.level l.range) l.initial.cells l.cells;
}
