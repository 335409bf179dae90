use Rattle.std.proofs.Common.{◌≤◌, ◌∙◌, ◌∷◌, ℕ, List, sym, subst, arith}
use Rattle.std.proofs.lemmas.List.{with_items_is}
use Rattle.tile_cache.specs.declared.touch_grid.TheConstants.{WIDE_LEVELS}
use Rattle.tile_cache.specs.Cells.{cell_at}
use Rattle.tile_cache.specs.Touched.{Remembers, StaysElsewhere}
use Rattle.tile_cache.proofs.Marks.{remembers_more, stays_empty, stays_more}
use Rattle.tile_cache.proofs.Numbers.{rises_none}
use Rattle.tile_cache.proofs.wide_grid.WideGrid.mark.Goals as goal
use Rattle.tile_cache.proofs.wide_grid.WideGrid.mark.Goals.{then-bounds-via-then-bounds, then-bounds-via-else-bounds+then-bounds-2}

pub returns-then-bounds-clause-remembers : goal.returns-then-bounds-clause-remembers
returns-then-bounds-clause-remembers c marks before =
    let cells = c.args.self.now in let number = c.args.number in
    remembers_more WIDE_LEVELS cells cells (c.args.bounds.now, number) marks (rises_none number cells)
    (λ level column row is touches. elim c.then-bounds.branch as (λ _. number ≤ cell_at cells level column row) [
      | then-bounds-via-then-bounds w ↦ omega (arith, w.if-bounds.true, touches.ordered.across)
      | then-bounds-via-else-bounds+then-bounds-2 w ↦ omega (arith, w.if-bounds-2.true, touches.ordered.down)
    ]) before

pub returns-then-bounds-clause-stays : goal.returns-then-bounds-clause-stays
returns-then-bounds-clause-stays c = stays_empty c.args.self.now (c.args.bounds.now, c.args.number)

pub returns-clause-remembers : goal.returns-clause-remembers
returns-clause-remembers c marks before =
    let after = c.raise_levels.new.cells in
    let kept = with_items_is c.self.inside.cells after (c.raise_levels.ensures.rises.length ∙ c.deref_mut.ensures.len) in
    subst (λ (xs : List ℕ). Remembers xs ((c.args.bounds.now, c.args.number) ∷ marks)) (sym kept)
    (remembers_more WIDE_LEVELS c.args.self.now after (c.args.bounds.now, c.args.number) marks
    (rw (← c.self.view_is, ← c.deref_mut.ensures.value) c.raise_levels.ensures.rises)
    (λ level column row is touches. c.raise_levels.ensures.raised level column row is touches.cell) before)

pub returns-clause-stays : goal.returns-clause-stays
returns-clause-stays c marks first before =
    let after = c.raise_levels.new.cells in
    let kept = with_items_is c.self.inside.cells after (c.raise_levels.ensures.rises.length ∙ c.deref_mut.ensures.len) in
    subst (λ (xs : List ℕ). StaysElsewhere ((c.args.bounds.now, c.args.number) ∷ marks) first xs) (sym kept)
    (stays_more c.args.self.now after (c.args.bounds.now, c.args.number) marks first
    (record { across = omega (arith, c.if-bounds.false); down = omega (arith, c.if-bounds-2.false) })
    (rw (← c.self.view_is, ← c.deref_mut.ensures.value) c.raise_levels.ensures.stays) before)
