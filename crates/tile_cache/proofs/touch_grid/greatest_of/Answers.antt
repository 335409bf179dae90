use Rattle.std.proofs.Common.{arith}
use Rattle.tile_cache.specs.Cells.{IsZeroOrCell}
use Rattle.tile_cache.proofs.Numbers.{reached_rows, row_cell, of_max}
use Rattle.tile_cache.proofs.touch_grid.greatest_of.Goals as goal

pub loop-row-preserved : goal.loop-row-preserved
loop-row-preserved c =
    let cells = c.args.cells.now in
    let level = c.args.level in
    let range = c.args.range in
    let row = c.loop-row.row in
    rw c.max-newest.ensures (record {
      reached = reached_rows cells level range row c.greatest.result c.loop-row.newest c.greatest.ensures.reached c.loop-row.invariant.reached;
      found = of_max (IsZeroOrCell cells level range) c.greatest.result c.loop-row.newest
          (row_cell cells level range row c.greatest.result c.loop-row.auto.row (omega (arith, c.loop-row-test.true)) c.greatest.ensures.found)
          c.loop-row.invariant.found;
    })
