use Rattle.std.proofs.Common.{arith}
use Rattle.tile_cache.specs.Cells.{IsInRow, IsOfCells}
use Rattle.tile_cache.proofs.Numbers.{rises_again, raised_rows, raised_all, stays_again, stays_wider}
use Rattle.tile_cache.proofs.touch_grid.raise_cells.Goals as goal

pub loop-row-preserved : goal.loop-row-preserved
loop-row-preserved c =
    let number = c.args.number in
    let before = c.loop-row.cells in
    let after = c.raise_row.new.cells in
    record {
      rises = rises_again number c.args.cells.now before after c.loop-row.invariant.rises c.raise_row.ensures.rises;
      raised = raised_rows number c.args.level c.args.range c.loop-row.row before after c.raise_row.ensures.rises
          (λ column low lt. c.raise_row.ensures.raised column low (omega (arith, lt, c.end_of-end.ensures))) c.loop-row.invariant.raised;
      stays = stays_again (IsOfCells c.args.level c.args.range) c.args.cells.now before after c.loop-row.invariant.stays
          (stays_wider (IsInRow c.args.level c.loop-row.row c.args.range.left c.end_of-end.result) (IsOfCells c.args.level c.args.range) before after
          (λ at one. (
            one.0,
            c.loop-row.row,
            record {
              left = one.1;
              right = omega (arith, one.2, c.end_of-end.ensures);
              top = c.loop-row.auto.row;
              bottom = omega (arith, c.loop-row-test.true, c.end_of-row-end.ensures);
            },
            one.3,
          )) c.raise_row.ensures.stays);
    }

pub returns-clause-raised : goal.returns-clause-raised
returns-clause-raised c =
    raised_all c.args.number c.args.level c.args.range c.loop-row.row c.loop-row.cells (omega (arith, c.loop-row-test.false, c.end_of-row-end.ensures))
    c.loop-row.invariant.raised
