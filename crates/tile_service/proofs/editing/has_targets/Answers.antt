use Rattle.std.proofs.Common.{refl, sym, ◌∙◌}
use Rattle.std.proofs.lemmas.Bool.{false≢true}
use Rattle.tile_service.specs.Machine.{HasTarget}
use Rattle.tile_service.proofs.Edits.BatchLimits.{passes_step, passes_all, passes_there}
use Rattle.tile_service.proofs.editing.has_targets.Goals as goal

pub returns-then-not-has_target : goal.returns-then-not-has_target
returns-then-not-has_target c = (
  λ e. absurd (false≢true e),
  λ all. absurd (false≢true (sym c.if-not-has_target.true ∙ c.has_target.ensures.1 (passes_there (HasTarget c.args.store.now.features)
      c.loop-change.change-index c.args.changes.now c.change-item.result c.loop-change-test.true c.change-item.is all))),
)

pub loop-change-preserved : goal.loop-change-preserved
loop-change-preserved c = passes_step (HasTarget c.args.store.now.features) c.loop-change.change-index c.args.changes.now c.change-item.result
    c.loop-change-test.true c.change-item.is (c.has_target.ensures.0 c.if-not-has_target.false) c.loop-change.invariant

pub returns : goal.returns
returns c = (
  λ _. passes_all (HasTarget c.args.store.now.features) c.loop-change.change-index c.args.changes.now c.loop-change-test.false c.loop-change.invariant,
  λ _. refl,
)
