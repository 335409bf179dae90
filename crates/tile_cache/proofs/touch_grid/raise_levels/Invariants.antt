use Rattle.std.proofs.Common.{ℕ, ◌<◌, ◌≤◌}
use Rattle.tile_cache.specs.Cells.{cell_at, cells_of, HasCell, RisesTo, StaysBut, IsOfBox}
use Rattle.tile_cache.proofs.touch_grid.raise_levels.Given as goal

-- the levels so far
abbrev pub invariant-loop-level : goal.invariant-loop-level
invariant-loop-level l = record {
  rises : RisesTo l.number l.initial.cells l.cells;
  raised : (level column row : ℕ) → level < l.level → HasCell (cells_of level l.bounds) column row → l.number ≤ cell_at l.cells level column row;
  stays : StaysBut (IsOfBox l.bounds) l.initial.cells l.cells;
}
