use Rattle.std.proofs.Common.{refl, sym, inr, ◌∙◌, map}
use Rattle.std.proofs.lemmas.Bool.{false≢true}
use Rattle.feature_model.specs.Data.{change_data}
use Rattle.feature_model.specs.declared.fault.EditFault.TheVariants.{Reach}
use Rattle.feature_model.proofs.Changes.{all_fit}
use Rattle.tile_service.proofs.Edits.BatchLimits.{far_from}
use Rattle.tile_service.proofs.editing.within_batch_limits.Goals as goal

pub all_cover_few_tiles-requires : goal.all_cover_few_tiles-requires
all_cover_few_tiles-requires c = all_fit (map change_data c.args.changes.now) (c.in-Ok.ensures.ok.0 refl).changes

pub returns-then-not-all_cover_few_tiles-clause-fault : goal.returns-then-not-all_cover_few_tiles-clause-fault
returns-then-not-all_cover_few_tiles-clause-fault c = (
  Reach,
  refl,
  inr (
    refl,
    c.in-Ok.ensures.ok.0 refl,
    far_from (map change_data c.args.changes.now) (λ near. false≢true (sym c.if-not-all_cover_few_tiles.true ∙ c.all_cover_few_tiles.ensures.1 near)),
  ),
)

pub returns-clause-ok : goal.returns-clause-ok
returns-clause-ok c = record { allowed = c.in-Ok.ensures.ok.0 refl; near = c.all_cover_few_tiles.ensures.0 c.if-not-all_cover_few_tiles.false }
