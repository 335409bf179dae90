use Rattle.std.proofs.Common.{ℕ, ◌≤◌, subst, arith}
use Rattle.tile_cache.specs.declared.touch_grid.Cells.{Cells}
use Rattle.tile_cache.specs.Cells.{cell_at, cells_of, HasCell, StaysBut, IsOfCells, IsOfBox}
use Rattle.tile_cache.proofs.Numbers.{rises_again, raised_levels, stays_again, stays_wider}
use Rattle.tile_cache.proofs.touch_grid.raise_levels.Goals as goal

pub loop-level-preserved : goal.loop-level-preserved
loop-level-preserved c =
    let number = c.args.number in
    let bounds = c.args.bounds.now in
    let level = c.loop-level.level in
    let before = c.loop-level.cells in
    let after = c.raise_cells.new.cells in
    let done = c.raise_cells.ensures in
    let cells_are = c.cells_of.ensures.cells in
    record {
      rises = rises_again number c.args.cells.now before after c.loop-level.invariant.rises done.rises;
      raised = raised_levels number bounds level before after done.rises
          (subst (λ (r : Cells). (column row : ℕ) → HasCell r column row → number ≤ cell_at after level column row) cells_are done.raised)
          c.loop-level.invariant.raised;
      stays = stays_again (IsOfBox bounds) c.args.cells.now before after c.loop-level.invariant.stays
          (stays_wider (IsOfCells level (cells_of level bounds)) (IsOfBox bounds) before after (λ at one. (level, omega (arith, c.loop-level-test.true, c.requires.levels), one))
          (subst (λ (r : Cells). StaysBut (IsOfCells level r) before after) cells_are done.stays));
    }
