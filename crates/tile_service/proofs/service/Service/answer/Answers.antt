use Rattle.std.proofs.Common.{◌≡◌, ◌∙◌, Bool, true, false, Ok, Err, map, refl, sym, ap, subst}
use Rattle.std.proofs.lemmas.Bool.{false≢true}
use Rattle.sector_bytes.proofs.Counts.{same_count}
use Rattle.cached_map.specs.Cached.{shared_bytes}
use Rattle.feature_model.specs.Data.{put, delete, feature_data, change_data}
use Rattle.tile_service.specs.Machine.{got, no_memory, single, batched, recorded_in, recorded_change, edit, begin, step, cancel, tile, look}
use Rattle.tile_service.specs.Events.{IsTile}
use Rattle.tile_service.proofs.Runs.Callers.{edit_step, tile_step, look_step, begin_step, step_step, cancel_step}
use Rattle.tile_service.proofs.Runs.DeviceFaults.{other_answer, memory_told, outcome_counts, edit_risen, left_risen}
use Rattle.tile_service.proofs.Runs.DeviceFaults.{begin_no_device, cancel_no_device, look_no_device}
use Rattle.tile_service.proofs.Runs.OneEvent.{no_known, edit_faults, edit_fails, step_faults, step_fails}
use Rattle.tile_service.proofs.Runs.EventAnswers.{told_step, put_told, delete_told, batch_told, begin_told, step_told}
use Rattle.tile_service.proofs.service.Service.answer.Goals as goal

pub returns-in-Put-clause-takes : goal.returns-in-Put-clause-takes
returns-in-Put-clause-takes g c = (
  edit single (recorded_change c.args.self.now.version (put c.in-Put.id (feature_data c.in-Put.feature))) c.put.result,
  told_step c.args.self.now.version _ c.in-Put.is c.edited.ensures (put_told c.args.self.now.version c.in-Put.id c.in-Put.feature c.put.result),
  edit_step g.D.Sectors.sectors g.D.Sectors.honest g.D.Sectors.history g.D.Sectors.faults _ _ single
      (recorded_change c.args.self.now.version (put c.in-Put.id (feature_data c.in-Put.feature)))
      c.put.result c.put.ensures.machine c.put.ensures.takes,
)

pub returns-in-Put-clause-faults : goal.returns-in-Put-clause-faults
returns-in-Put-clause-faults g c none =
    edit_faults _ _ _ _ c.put.result _ _ (c.put.ensures.machine no_known) c.put.ensures.takes.failed

pub returns-in-Put-clause-failed : goal.returns-in-Put-clause-failed
returns-in-Put-clause-failed g c =
    edit_fails _ _ _ _ c.put.result _ _ (c.put.ensures.machine no_known) c.put.ensures.takes.failed

pub returns-in-Delete-clause-takes : goal.returns-in-Delete-clause-takes
returns-in-Delete-clause-takes g c = (
  edit single (recorded_change c.args.self.now.version (delete c.in-Delete.id)) c.delete.result,
  told_step c.args.self.now.version _ c.in-Delete.is c.edited-in-Delete.ensures (delete_told c.args.self.now.version c.in-Delete.id c.delete.result),
  edit_step g.D.Sectors.sectors g.D.Sectors.honest g.D.Sectors.history g.D.Sectors.faults _ _ single
      (recorded_change c.args.self.now.version (delete c.in-Delete.id))
      c.delete.result c.delete.ensures.machine c.delete.ensures.takes,
)

pub returns-in-Delete-clause-faults : goal.returns-in-Delete-clause-faults
returns-in-Delete-clause-faults g c none =
    edit_faults _ _ _ _ c.delete.result _ _ (c.delete.ensures.machine no_known) c.delete.ensures.takes.failed

pub returns-in-Delete-clause-failed : goal.returns-in-Delete-clause-failed
returns-in-Delete-clause-failed g c =
    edit_fails _ _ _ _ c.delete.result _ _ (c.delete.ensures.machine no_known) c.delete.ensures.takes.failed

pub returns-in-Batch-clause-takes : goal.returns-in-Batch-clause-takes
returns-in-Batch-clause-takes g c = (
  edit batched (recorded_in c.args.self.now.version (map change_data c.in-Batch.changes.items)) c.batch.result,
  told_step c.args.self.now.version _ c.in-Batch.is c.edited-in-Batch.ensures (batch_told c.args.self.now.version c.in-Batch.changes c.batch.result),
  edit_step g.D.Sectors.sectors g.D.Sectors.honest g.D.Sectors.history g.D.Sectors.faults _ _ batched
      (recorded_in c.args.self.now.version (map change_data c.in-Batch.changes.items))
      c.batch.result c.batch.ensures.machine c.batch.ensures.takes,
)

pub returns-in-Batch-clause-faults : goal.returns-in-Batch-clause-faults
returns-in-Batch-clause-faults g c none =
    edit_faults _ _ _ _ c.batch.result _ _ (c.batch.ensures.machine no_known) c.batch.ensures.takes.failed

pub returns-in-Batch-clause-failed : goal.returns-in-Batch-clause-failed
returns-in-Batch-clause-failed g c =
    edit_fails _ _ _ _ c.batch.result _ _ (c.batch.ensures.machine no_known) c.batch.ensures.takes.failed

pub returns-in-Ok-clause-takes : goal.returns-in-Ok-clause-takes
returns-in-Ok-clause-takes g c = (
  tile c.in-Tile.at.z c.in-Tile.at.x c.in-Tile.at.y (got (shared_bytes c.in-Ok.content)),
  told_step c.args.self.now.version _ c.in-Tile.is refl refl,
  tile_step g.D.Sectors.sectors g.D.Sectors.honest g.D.Sectors.history _ _ c.tile.ensures.same c.tile.ensures.disk
      c.tile.ensures.untouched c.tile.ensures.up c.in-Tile.at.z c.in-Tile.at.x c.in-Tile.at.y _ c.in-Ok.ensures.machine,
)

pub returns-in-Err-clause-takes : goal.returns-in-Err-clause-takes
returns-in-Err-clause-takes g c = (
  tile c.in-Tile.at.z c.in-Tile.at.x c.in-Tile.at.y no_memory,
  told_step c.args.self.now.version _ c.in-Tile.is refl (c.in-Err.ensures.fault, refl),
  tile_step g.D.Sectors.sectors g.D.Sectors.honest g.D.Sectors.history _ _ c.tile.ensures.same c.tile.ensures.disk
      c.tile.ensures.untouched c.tile.ensures.up c.in-Tile.at.z c.in-Tile.at.x c.in-Tile.at.y _ c.in-Err.ensures.machine,
)

pub returns-in-Look-clause-takes : goal.returns-in-Look-clause-takes
returns-in-Look-clause-takes g c = (
  look c.in-Look.id c.look.ensures.0,
  told_step c.args.self.now.version _ c.in-Look.is refl c.look.ensures.1,
  (look_step g.D.Sectors.sectors g.D.Sectors.honest g.D.Sectors.history _ c.in-Look.id c.look.ensures.0 c.look.ensures.2),
)

pub returns-in-Begin-clause-takes : goal.returns-in-Begin-clause-takes
returns-in-Begin-clause-takes g c = (
  begin c.publish_begin.result,
  told_step c.args.self.now.version _ c.in-Begin.is c.left.ensures (begin_told c.args.self.now.version c.publish_begin.result),
  begin_step g.D.Sectors.sectors g.D.Sectors.honest g.D.Sectors.history _ _ c.publish_begin.result c.publish_begin.ensures.machine
      c.publish_begin.ensures.same c.publish_begin.ensures.up,
)

pub returns-in-Ok-publish_cancel-clause-takes : goal.returns-in-Ok-publish_cancel-clause-takes
returns-in-Ok-publish_cancel-clause-takes g c = (
  cancel (Ok tt),
  told_step c.args.self.now.version _ c.in-Cancel.is refl refl,
  cancel_step g.D.Sectors.sectors g.D.Sectors.honest g.D.Sectors.history _ _ _ c.in-Ok-publish_cancel.ensures.machine
      c.publish_cancel.ensures.same c.publish_cancel.ensures.up,
)

pub returns-in-Err-publish_cancel-clause-takes : goal.returns-in-Err-publish_cancel-clause-takes
returns-in-Err-publish_cancel-clause-takes g c = (
  cancel (Err c.in-Err-publish_cancel.fault),
  told_step c.args.self.now.version _ c.in-Cancel.is refl refl,
  cancel_step g.D.Sectors.sectors g.D.Sectors.honest g.D.Sectors.history _ _ _ c.in-Err-publish_cancel.ensures.machine
      c.publish_cancel.ensures.same c.publish_cancel.ensures.up,
)

pub returns-in-Step-clause-takes : goal.returns-in-Step-clause-takes
returns-in-Step-clause-takes g c = (
  step c.publish_step.result,
  told_step c.args.self.now.version _ c.in-Step.is c.left-in-Step.ensures (step_told c.args.self.now.version c.publish_step.result),
  (step_step g.D.Sectors.sectors g.D.Sectors.honest g.D.Sectors.history _ _ c.publish_step.result
      c.publish_step.ensures.machine c.publish_step.ensures.size c.publish_step.ensures.touched c.publish_step.ensures.drafting
      c.publish_step.ensures.disk
      c.publish_step.ensures.refused c.publish_step.ensures.any_moment c.publish_step.ensures.after c.publish_step.ensures.archive
      c.publish_step.ensures.edits),
)

pub returns-in-Step-clause-faults : goal.returns-in-Step-clause-faults
returns-in-Step-clause-faults g c none =
    step_faults _ _ c.publish_step.result _ _ (c.publish_step.ensures.machine no_known) c.publish_step.ensures.failed

pub returns-in-Step-clause-failed : goal.returns-in-Step-clause-failed
returns-in-Step-clause-failed g c =
    step_fails _ _ c.publish_step.result _ _ (c.publish_step.ensures.machine no_known) c.publish_step.ensures.failed

-- ---- how the count of faults changes

pub returns-in-Put-clause-never_falls : goal.returns-in-Put-clause-never_falls
returns-in-Put-clause-never_falls g c = outcome_counts c.put.result _ _ c.put.ensures.takes.failed

pub returns-in-Put-clause-device : goal.returns-in-Put-clause-device
returns-in-Put-clause-device g c is = edit_risen c.put.result _ _ c.put.ensures.takes.failed (sym c.edited.ensures ∙ is)

pub returns-in-Delete-clause-never_falls : goal.returns-in-Delete-clause-never_falls
returns-in-Delete-clause-never_falls g c = outcome_counts c.delete.result _ _ c.delete.ensures.takes.failed

pub returns-in-Delete-clause-device : goal.returns-in-Delete-clause-device
returns-in-Delete-clause-device g c is = edit_risen c.delete.result _ _ c.delete.ensures.takes.failed (sym c.edited-in-Delete.ensures ∙ is)

pub returns-in-Batch-clause-never_falls : goal.returns-in-Batch-clause-never_falls
returns-in-Batch-clause-never_falls g c = outcome_counts c.batch.result _ _ c.batch.ensures.takes.failed

pub returns-in-Batch-clause-device : goal.returns-in-Batch-clause-device
returns-in-Batch-clause-device g c is = edit_risen c.batch.result _ _ c.batch.ensures.takes.failed (sym c.edited-in-Batch.ensures ∙ is)

pub returns-in-Ok-clause-device : goal.returns-in-Ok-clause-device
returns-in-Ok-clause-device g c is = absurd (other_answer _ refl is)

pub returns-in-Err-clause-device : goal.returns-in-Err-clause-device
returns-in-Err-clause-device g c is = absurd (memory_told c.in-Err.fault c.in-Err.ensures.fault is)

pub returns-in-Look-clause-device : goal.returns-in-Look-clause-device
returns-in-Look-clause-device g c is = absurd (look_no_device c.args.self.now.version c.in-Look.id _ _ c.look.ensures.1 is)

pub returns-in-Begin-clause-device : goal.returns-in-Begin-clause-device
returns-in-Begin-clause-device g c is =
    absurd (begin_no_device _ _ c.publish_begin.result (c.publish_begin.ensures.machine no_known) (sym c.left.ensures ∙ is))

pub returns-in-Ok-publish_cancel-clause-device : goal.returns-in-Ok-publish_cancel-clause-device
returns-in-Ok-publish_cancel-clause-device g c is = absurd (other_answer _ refl is)

pub returns-in-Err-publish_cancel-clause-device : goal.returns-in-Err-publish_cancel-clause-device
returns-in-Err-publish_cancel-clause-device g c is =
    absurd (cancel_no_device _ _ c.in-Err-publish_cancel.fault (c.in-Err-publish_cancel.ensures.machine no_known) is)

pub returns-in-Step-clause-never_falls : goal.returns-in-Step-clause-never_falls
returns-in-Step-clause-never_falls g c = outcome_counts c.publish_step.result _ _ c.publish_step.ensures.failed

pub returns-in-Step-clause-device : goal.returns-in-Step-clause-device
returns-in-Step-clause-device g c is = left_risen c.publish_step.result _ _ c.publish_step.ensures.failed (sym c.left-in-Step.ensures ∙ is)

-- ---- events at which the disk isn't asked, or only read

stays_whole : (was now : Bool) → now ≡ was → was ≡ false → now ≡ true → ⊥
stays_whole was now same whole broke = false≢true (sym whole ∙ sym same ∙ broke)

pub returns-in-Look-clause-never_falls : goal.returns-in-Look-clause-never_falls
returns-in-Look-clause-never_falls g c = same_count _ _ refl

pub returns-in-Look-clause-faults : goal.returns-in-Look-clause-faults
returns-in-Look-clause-faults g c none whole = refl

pub returns-in-Look-clause-failed : goal.returns-in-Look-clause-failed
returns-in-Look-clause-failed g c whole broke = absurd (stays_whole _ _ refl whole broke)

pub returns-in-Ok-clause-never_falls : goal.returns-in-Ok-clause-never_falls
returns-in-Ok-clause-never_falls g c = c.tile.ensures.never_falls

pub returns-in-Ok-clause-faults : goal.returns-in-Ok-clause-faults
returns-in-Ok-clause-faults g c none = absurd (none (subst IsTile (sym c.in-Tile.is) tt))

pub returns-in-Ok-clause-failed : goal.returns-in-Ok-clause-failed
returns-in-Ok-clause-failed g c whole broke = absurd (stays_whole _ _ (ap (λ s. s.broken) c.tile.ensures.same) whole broke)

pub returns-in-Err-clause-never_falls : goal.returns-in-Err-clause-never_falls
returns-in-Err-clause-never_falls g c = c.tile.ensures.never_falls

pub returns-in-Err-clause-faults : goal.returns-in-Err-clause-faults
returns-in-Err-clause-faults g c none = absurd (none (subst IsTile (sym c.in-Tile.is) tt))

pub returns-in-Err-clause-failed : goal.returns-in-Err-clause-failed
returns-in-Err-clause-failed g c whole broke = absurd (stays_whole _ _ (ap (λ s. s.broken) c.tile.ensures.same) whole broke)

pub returns-in-Begin-clause-never_falls : goal.returns-in-Begin-clause-never_falls
returns-in-Begin-clause-never_falls g c = same_count _ _ (ap (λ s. g.D.Sectors.faults s.disk) c.publish_begin.ensures.same)

pub returns-in-Begin-clause-faults : goal.returns-in-Begin-clause-faults
returns-in-Begin-clause-faults g c none whole = ap (λ s. g.D.Sectors.faults s.disk) c.publish_begin.ensures.same

pub returns-in-Begin-clause-failed : goal.returns-in-Begin-clause-failed
returns-in-Begin-clause-failed g c whole broke = absurd (stays_whole _ _ (ap (λ s. s.broken) c.publish_begin.ensures.same) whole broke)

pub returns-in-Ok-publish_cancel-clause-never_falls : goal.returns-in-Ok-publish_cancel-clause-never_falls
returns-in-Ok-publish_cancel-clause-never_falls g c = same_count _ _ (ap (λ s. g.D.Sectors.faults s.disk) c.publish_cancel.ensures.same)

pub returns-in-Ok-publish_cancel-clause-faults : goal.returns-in-Ok-publish_cancel-clause-faults
returns-in-Ok-publish_cancel-clause-faults g c none whole = ap (λ s. g.D.Sectors.faults s.disk) c.publish_cancel.ensures.same

pub returns-in-Ok-publish_cancel-clause-failed : goal.returns-in-Ok-publish_cancel-clause-failed
returns-in-Ok-publish_cancel-clause-failed g c whole broke = absurd (stays_whole _ _ (ap (λ s. s.broken) c.publish_cancel.ensures.same) whole broke)

pub returns-in-Err-publish_cancel-clause-never_falls : goal.returns-in-Err-publish_cancel-clause-never_falls
returns-in-Err-publish_cancel-clause-never_falls g c = same_count _ _ (ap (λ s. g.D.Sectors.faults s.disk) c.publish_cancel.ensures.same)

pub returns-in-Err-publish_cancel-clause-faults : goal.returns-in-Err-publish_cancel-clause-faults
returns-in-Err-publish_cancel-clause-faults g c none whole = ap (λ s. g.D.Sectors.faults s.disk) c.publish_cancel.ensures.same

pub returns-in-Err-publish_cancel-clause-failed : goal.returns-in-Err-publish_cancel-clause-failed
returns-in-Err-publish_cancel-clause-failed g c whole broke = absurd (stays_whole _ _ (ap (λ s. s.broken) c.publish_cancel.ensures.same) whole broke)
