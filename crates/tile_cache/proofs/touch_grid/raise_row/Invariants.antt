use Rattle.std.proofs.Common.{ℕ, ◌<◌, ◌≤◌}
use Rattle.tile_cache.specs.Cells.{cell_at, RisesTo, StaysBut, IsInRow}
use Rattle.tile_cache.proofs.touch_grid.raise_row.Given as goal

abbrev pub invariant-loop-column : goal.invariant-loop-column
invariant-loop-column l = record {
  rises : RisesTo l.number l.initial.cells l.cells;
  raised : (column : ℕ) → l.first ≤ column → column < l.column → l.number ≤ cell_at l.cells l.level column l.row;
  stays : StaysBut (IsInRow l.level l.row l.first l.end) l.initial.cells l.cells;
}
