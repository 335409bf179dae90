use Rattle.std.proofs.Common.{refl, sym, ◌∙◌}
use Rattle.std.proofs.lemmas.Bool.{false≢true}
use Rattle.feature_model.specs.Limits.{ChangeFits}
use Rattle.tile_service.specs.Limits.{CoversFewTiles}
use Rattle.tile_service.proofs.Edits.BatchLimits.{passes_step, passes_all, passes_there}
use Rattle.tile_service.proofs.editing.all_cover_few_tiles.Goals as goal

pub covers_few_tiles-requires : goal.covers_few_tiles-requires
covers_few_tiles-requires c =
    passes_there ChangeFits c.loop-change.change-index c.args.changes.now c.change-item.result c.loop-change-test.true c.change-item.is c.requires

pub returns-then-not-covers_few_tiles : goal.returns-then-not-covers_few_tiles
returns-then-not-covers_few_tiles c = (
  λ e. absurd (false≢true e),
  λ all. absurd (false≢true (sym c.if-not-covers_few_tiles.true ∙ c.covers_few_tiles.ensures.1 (
      passes_there CoversFewTiles c.loop-change.change-index c.args.changes.now c.change-item.result c.loop-change-test.true c.change-item.is all))),
)

pub loop-change-preserved : goal.loop-change-preserved
loop-change-preserved c = passes_step CoversFewTiles c.loop-change.change-index c.args.changes.now c.change-item.result c.loop-change-test.true
    c.change-item.is (c.covers_few_tiles.ensures.0 c.if-not-covers_few_tiles.false) c.loop-change.invariant

pub returns : goal.returns
returns c =
    (λ _. passes_all CoversFewTiles c.loop-change.change-index c.args.changes.now c.loop-change-test.false c.loop-change.invariant, λ _. refl)
