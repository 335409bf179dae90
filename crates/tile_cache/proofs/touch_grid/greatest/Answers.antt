use Rattle.std.proofs.Common.{◌≡◌, ap, inr, refl}
use Rattle.std.proofs.Math.ListN.{get_or}
use Rattle.tile_cache.specs.Cells.{cell_at, IsZeroOrOneOf}
use Rattle.tile_cache.proofs.Numbers.{reached_more, of_max}
use Rattle.tile_cache.proofs.touch_grid.greatest.Goals as goal

pub loop-column-preserved : goal.loop-column-preserved
loop-column-preserved c =
    let cells = c.args.cells.now in
    let level = c.args.level in
    let row = c.args.row in
    let at = c.loop-column.column in
    let newest = c.loop-column.newest in
    let here : get_or cells c.place_in.result 0 ≡ cell_at cells level at row = ap (λ place. get_or cells place 0) c.place_in.ensures.place in
    rw (c.max-newest.ensures, here) (record {
      reached = reached_more cells level row c.args.first at newest c.loop-column.invariant.reached;
      found = of_max (IsZeroOrOneOf cells level row c.args.first c.args.end) (cell_at cells level at row) newest
          (inr (at, c.loop-column.auto.column, c.loop-column-test.true, refl)) c.loop-column.invariant.found;
    })
