use Rattle.std.proofs.Common.{◌≤◌, arith}
use Rattle.tile_cache.specs.declared.touch_grid.TheConstants.{LEVELS}
use Rattle.tile_cache.specs.Cells.{cell_at}
use Rattle.tile_cache.proofs.Marks.{remembers_more, stays_empty, stays_more}
use Rattle.tile_cache.proofs.Numbers.{rises_none}
use Rattle.tile_cache.proofs.touch_grid.TouchGrid.mark.Goals as goal
use Rattle.tile_cache.proofs.touch_grid.TouchGrid.mark.Goals.{then-bounds-via-then-bounds, then-bounds-via-else-bounds+then-bounds-2}

pub returns-then-bounds-clause-remembers : goal.returns-then-bounds-clause-remembers
returns-then-bounds-clause-remembers c marks before =
    let cells = c.args.self.now in let number = c.args.number in
    remembers_more LEVELS cells cells (c.args.bounds.now, number) marks (rises_none number cells)
    (λ level column row is touches. elim c.then-bounds.branch as (λ _. number ≤ cell_at cells level column row) [
      | then-bounds-via-then-bounds w ↦ omega (arith, w.if-bounds.true, touches.ordered.across)
      | then-bounds-via-else-bounds+then-bounds-2 w ↦ omega (arith, w.if-bounds-2.true, touches.ordered.down)
    ]) before

pub returns-then-bounds-clause-stays : goal.returns-then-bounds-clause-stays
returns-then-bounds-clause-stays c = stays_empty c.args.self.now (c.args.bounds.now, c.args.number)

pub returns-clause-remembers : goal.returns-clause-remembers
returns-clause-remembers c marks before =
    remembers_more LEVELS c.args.self.now c.raise_levels.new.cells (c.args.bounds.now, c.args.number) marks (rw (← c.self.view_is) c.raise_levels.ensures.rises)
    (λ level column row is touches. c.raise_levels.ensures.raised level column row is touches.cell) before

pub returns-clause-stays : goal.returns-clause-stays
returns-clause-stays c marks first before =
    stays_more c.args.self.now c.raise_levels.new.cells (c.args.bounds.now, c.args.number) marks first
    (record { across = omega (arith, c.if-bounds.false); down = omega (arith, c.if-bounds-2.false) })
    (rw (← c.self.view_is) c.raise_levels.ensures.stays) before
