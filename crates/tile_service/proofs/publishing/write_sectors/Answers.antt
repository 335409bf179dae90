use Rattle.std.proofs.Common.{◌∙◌, ℕ, List, Ok, refl, sym, subst, arith}
use Rattle.sector_disk.proofs.AskedLaws.{writes_on}
use Rattle.sector_disk.proofs.History.{started, any_write, any_sync}
use Rattle.tile_service.specs.Publishing.{IsContentSector}
use Rattle.tile_service.specs.Stored.{Holds}
use Rattle.tile_service.proofs.Publications.StepWrites.{write_moment, is_content_sector, next_area_keeps, next_area_leaves, sync_keeps, sync_holds}
use Rattle.tile_service.proofs.Publications.StepWrites.{write_beside, sync_beside}
use Rattle.tile_service.proofs.Publications.AreaContents.{write_stands}
use Rattle.tile_service.proofs.publishing.write_sectors.Goals as goal

pub loop-index-init : goal.loop-index-init
loop-index-init g c = record {
  disk = record { same_count = refl; was_honest = λ is. is };
  faults = refl;
  steps = λ honest. omega arith;
  leaves = λ stored honest next keeps. started (g.D.Sectors.history c.args.disk.now)
      (Holds (g.D.Sectors.sectors c.args.disk.now) c.args.layout.sectors stored) keeps;
  keeps = λ stored honest next keeps. keeps;
  beside = λ honest at out. refl;
  first = λ honest first. first;
}

pub returns-in_err-write_area-clause-leaves : goal.returns-in_err-write_area-clause-leaves
returns-in_err-write_area-clause-leaves g c stored honest next keeps =
    let before = c.write_area.ensures.disk.was_honest honest in
    let inv = c.loop-index.invariant in
    next_area_leaves _ c.args.layout.sectors stored c.args.generation c.loop-index.index _ _ _ _ (c.write_area.ensures.writes honest) next
    (omega arith) (inv.keeps stored before next keeps) _ (inv.leaves stored before next keeps)

pub returns-in_err-write_area-clause-keeps : goal.returns-in_err-write_area-clause-keeps
returns-in_err-write_area-clause-keeps g c stored honest next keeps =
    next_area_keeps _ c.args.layout.sectors stored c.args.generation c.loop-index.index _ _ _ _ (c.write_area.ensures.writes honest) next
    (omega arith) (c.loop-index.invariant.keeps stored (c.write_area.ensures.disk.was_honest honest) next keeps)

pub loop-index-preserved : goal.loop-index-preserved
loop-index-preserved g c =
    let inv = c.loop-index.invariant in
    let ok = c.in_ok-write_area.ensures in
    record {
      disk = writes_on inv.disk ok.disk;
      faults = ok.failed ∙ inv.faults;
      steps = λ honest. omega (
        arith,
        inv.steps (ok.disk.was_honest honest),
        write_moment _ _ _ _ (any_write c.write_area.result _ _ _ _ (c.write_area.ensures.writes honest)),
      );
      leaves = λ stored honest next keeps.
          next_area_leaves _ c.args.layout.sectors stored c.args.generation c.loop-index.index _ _ _ _ (c.write_area.ensures.writes honest) next
          (omega arith) (inv.keeps stored (ok.disk.was_honest honest) next keeps) _ (inv.leaves stored (ok.disk.was_honest honest) next keeps);
      keeps = λ stored honest next keeps.
          next_area_keeps _ c.args.layout.sectors stored c.args.generation c.loop-index.index _ _ _ _ (c.write_area.ensures.writes honest) next
          (omega arith) (inv.keeps stored (ok.disk.was_honest honest) next keeps);
      beside = λ honest. write_beside c.args.layout.sectors c.args.generation (g.D.Sectors.history c.args.disk.now) (g.D.Sectors.history c.loop-index.disk)
          (g.D.Sectors.history c.write_area.new.disk) (inv.beside (ok.disk.was_honest honest)) c.loop-index.index _ (omega arith)
          (any_write c.write_area.result _ _ _ _ (c.write_area.ensures.writes honest));
      first = λ honest first. write_stands c.args.content.now.snapshot c.args.content.now.archive c.args.layout.sectors c.args.generation
          (Ok tt) c.loop-index.index _ _ _ (inv.first (ok.disk.was_honest honest) first)
          (subst (λ (s : List ℕ). IsContentSector c.args.content.now.snapshot c.args.content.now.archive c.loop-index.index s) (sym c.sector.ensures)
          (is_content_sector c.args.content.now c.loop-index.index))
          (ok.writes honest);
    }

pub returns-in_err-sync-clause-leaves : goal.returns-in_err-sync-clause-leaves
returns-in_err-sync-clause-leaves g c stored honest next keeps =
    let before = c.sync.ensures.disk.was_honest honest in
    sync_holds _ _ (any_sync c.sync.result _ _ (c.sync.ensures.syncs honest)) _ _ stored _
    (c.loop-index.invariant.leaves stored before next keeps) (c.loop-index.invariant.keeps stored before next keeps)

pub returns-in_err-sync-clause-keeps : goal.returns-in_err-sync-clause-keeps
returns-in_err-sync-clause-keeps g c stored honest next keeps =
    sync_keeps _ _ (any_sync c.sync.result _ _ (c.sync.ensures.syncs honest)) _ _ stored
    (c.loop-index.invariant.keeps stored (c.sync.ensures.disk.was_honest honest) next keeps)

pub returns-in_ok-sync-clause-leaves : goal.returns-in_ok-sync-clause-leaves
returns-in_ok-sync-clause-leaves g c stored honest next keeps =
    let before = c.sync.ensures.disk.was_honest honest in
    sync_holds _ _ (any_sync c.sync.result _ _ (c.sync.ensures.syncs honest)) _ _ stored _
    (c.loop-index.invariant.leaves stored before next keeps) (c.loop-index.invariant.keeps stored before next keeps)

pub returns-in_ok-sync-clause-keeps : goal.returns-in_ok-sync-clause-keeps
returns-in_ok-sync-clause-keeps g c stored honest next keeps =
    sync_keeps _ _ (any_sync c.sync.result _ _ (c.sync.ensures.syncs honest)) _ _ stored
    (c.loop-index.invariant.keeps stored (c.sync.ensures.disk.was_honest honest) next keeps)

pub returns-in_err-write_area-clause-beside : goal.returns-in_err-write_area-clause-beside
returns-in_err-write_area-clause-beside g c honest =
    write_beside c.args.layout.sectors c.args.generation (g.D.Sectors.history c.args.disk.now) (g.D.Sectors.history c.loop-index.disk)
    (g.D.Sectors.history c.write_area.new.disk) (c.loop-index.invariant.beside (c.write_area.ensures.disk.was_honest honest)) c.loop-index.index _
    (omega arith) (any_write c.write_area.result _ _ _ _ (c.write_area.ensures.writes honest))

pub returns-in_err-sync-clause-beside : goal.returns-in_err-sync-clause-beside
returns-in_err-sync-clause-beside g c honest =
    sync_beside c.args.layout.sectors c.args.generation (g.D.Sectors.history c.args.disk.now) (g.D.Sectors.history c.loop-index.disk)
    (g.D.Sectors.history c.sync.new.self) (c.loop-index.invariant.beside (c.sync.ensures.disk.was_honest honest))
    (any_sync c.sync.result _ _ (c.sync.ensures.syncs honest))

pub returns-in_ok-sync-clause-beside : goal.returns-in_ok-sync-clause-beside
returns-in_ok-sync-clause-beside g c honest =
    sync_beside c.args.layout.sectors c.args.generation (g.D.Sectors.history c.args.disk.now) (g.D.Sectors.history c.loop-index.disk)
    (g.D.Sectors.history c.sync.new.self) (c.loop-index.invariant.beside (c.sync.ensures.disk.was_honest honest))
    (any_sync c.sync.result _ _ (c.sync.ensures.syncs honest))

pub returns-in_err-write_area-clause-disk : goal.returns-in_err-write_area-clause-disk
returns-in_err-write_area-clause-disk g c = writes_on c.loop-index.invariant.disk c.write_area.ensures.disk

pub returns-in_err-sync-clause-disk : goal.returns-in_err-sync-clause-disk
returns-in_err-sync-clause-disk g c = writes_on c.loop-index.invariant.disk c.sync.ensures.disk

pub returns-in_ok-sync-clause-disk : goal.returns-in_ok-sync-clause-disk
returns-in_ok-sync-clause-disk g c = writes_on c.loop-index.invariant.disk c.sync.ensures.disk

pub returns-in_ok-sync-clause-failed : goal.returns-in_ok-sync-clause-failed
returns-in_ok-sync-clause-failed g c = c.in_ok-sync.ensures.faults ∙ c.loop-index.invariant.faults

pub returns-else-pauses-clause-disk : goal.returns-else-pauses-clause-disk
returns-else-pauses-clause-disk g c = c.loop-index.invariant.disk

pub returns-else-pauses-clause-failed : goal.returns-else-pauses-clause-failed
returns-else-pauses-clause-failed g c = c.loop-index.invariant.faults

pub returns-else-pauses-clause-leaves : goal.returns-else-pauses-clause-leaves
returns-else-pauses-clause-leaves g c = c.loop-index.invariant.leaves

pub returns-else-pauses-clause-keeps : goal.returns-else-pauses-clause-keeps
returns-else-pauses-clause-keeps g c = c.loop-index.invariant.keeps

pub returns-else-pauses-clause-beside : goal.returns-else-pauses-clause-beside
returns-else-pauses-clause-beside g c = c.loop-index.invariant.beside
