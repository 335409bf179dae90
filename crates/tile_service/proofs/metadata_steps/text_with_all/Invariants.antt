use Rattle.std.specs.Prelude.{◌≡◌, ◌-◌}
use Rattle.feature_model.specs.declared.limits.TheConstants.{NUMBER_END}
use Rattle.tile_service.proofs.metadata_steps.text_with_all.Given as goal

abbrev pub invariant-loop-draft : goal.invariant-loop-draft
invariant-loop-draft l = l.draft.features ≡ l.store.features

abbrev pub decreases-loop-draft : goal.decreases-loop-draft
decreases-loop-draft l = NUMBER_END - l.draft.from
