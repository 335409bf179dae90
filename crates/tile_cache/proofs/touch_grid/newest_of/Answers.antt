use Rattle.std.proofs.Common.{◌≡◌, ◌+◌, ◌∙◌, true, false, sym, subst, arith}
use Rattle.tile_cache.specs.declared.touch_grid.Cells.{Cells}
use Rattle.tile_cache.specs.Cells.{IsNarrow, IsGreatestIn, IsNewestIn}
use Rattle.tile_cache.proofs.Numbers.{newest_first, newest_more, newest_same, newest_all}
use Rattle.tile_cache.proofs.touch_grid.newest_of.Goals as goal
use Rattle.tile_cache.proofs.touch_grid.newest_of.Goals.{then-is_narrow, else-is_narrow}

pub loop-level-init : goal.loop-level-init
loop-level-init c =
    let cells = c.args.cells.now in
    newest_first cells c.args.bounds.now c.greatest_of-newest.result
    (subst (λ (r : Cells). IsGreatestIn cells 0 r c.greatest_of-newest.result) c.cells_of.ensures.cells c.greatest_of-newest.ensures)

pub loop-level-preserved : goal.loop-level-preserved
loop-level-preserved c =
    let cells = c.args.cells.now in
    let bounds = c.args.bounds.now in
    let level = c.loop-level.level in
    let range = c.cells_of-range.ensures.cells in
    elim c.if-is_narrow.branch [
      | then-is_narrow w ↦
          subst (λ n. IsNewestIn (level + 1) cells bounds n) (sym (w.newest-is ∙ w.min-newest.ensures))
          (newest_more cells bounds level c.loop-level.newest w.greatest_of.result
          (subst (IsNarrow level) range (c.is_narrow.ensures.0 w.if-is_narrow.true))
          (subst (λ (r : Cells). IsGreatestIn cells level r w.greatest_of.result) range w.greatest_of.ensures) c.loop-level.invariant)
      | else-is_narrow w ↦
          subst (λ n. IsNewestIn (level + 1) cells bounds n) (sym w.newest-is)
          (newest_same cells bounds level c.loop-level.newest (omega (arith, c.loop-level.auto.level))
          (λ narrow. let no : true ≡ false = sym (c.is_narrow.ensures.1 (subst (IsNarrow level) (sym range) narrow)) ∙ w.if-is_narrow.false in absurd (cc))
          c.loop-level.invariant)
    ]

pub returns : goal.returns
returns c =
    newest_all c.args.cells.now c.args.bounds.now c.args.levels c.loop-level.level c.loop-level.newest (c.loop-level.auto.level-end c.requires.first)
    c.loop-level-test.false
    c.loop-level.invariant
