use Rattle.sector_disk.proofs.History.{any_sync, started}
use Rattle.tile_service.specs.declared.fault.ServiceFault.TheVariants.{Broken}
use Rattle.tile_service.specs.Inside.{service_view}
use Rattle.tile_service.proofs.Runs.DeviceFaults.{counted_failed, other_fault}
use Rattle.tile_service.proofs.Disk.Synced.{sync_leaves_stored, up_synced, sync_shows, sync_seen}
use Rattle.std.proofs.Common.{inl, inr, None, refl}
use Rattle.tile_service.proofs.Archive.Unchanged.{shows_the_same, same_stays}
use Rattle.tile_service.proofs.Publications.Steps.{service_on_disk, service_idle}
use Rattle.tile_service.proofs.Edits.ShownEdits.{shows_on}
use Rattle.tile_service.proofs.service.Service.check.Goals as goal

pub returns-in-Ok-clause-any_moment : goal.returns-in-Ok-clause-any_moment
returns-in-Ok-clause-any_moment g c = rw (← c.self.view_is) (λ stored honest up.
    sync_leaves_stored _ _ (any_sync c.sync.result _ _ (c.sync.ensures.syncs honest)) _ stored _ up)

pub returns-in-Ok-clause-after : goal.returns-in-Ok-clause-after
returns-in-Ok-clause-after g c = rw (← c.self.view_is) (λ stored honest up.
    up_synced _ _ (any_sync c.sync.result _ _ (c.sync.ensures.syncs honest)) _ stored _ up _ _ c.sync.ensures.disk.same_count)

pub returns-in-Err-clause-any_moment : goal.returns-in-Err-clause-any_moment
returns-in-Err-clause-any_moment g c = rw (← c.self.view_is) (λ stored honest up.
    sync_leaves_stored _ _ (any_sync c.sync.result _ _ (c.sync.ensures.syncs honest)) _ stored _ up)

-- a broken service is left as it is

pub returns-then-self-clause-machine : goal.returns-then-self-clause-machine
returns-then-self-clause-machine g c = rw (← c.self.view_is) (λ known. (c.if-self.true, refl))

pub returns-then-self-clause-same : goal.returns-then-self-clause-same
returns-then-self-clause-same g c = refl

pub returns-then-self-clause-refused : goal.returns-then-self-clause-refused
returns-then-self-clause-refused g c = λ other. refl

pub returns-then-self-clause-disk : goal.returns-then-self-clause-disk
returns-then-self-clause-disk g c = record { same_count = refl; was_honest = λ is_honest. is_honest }

pub returns-then-self-clause-failed : goal.returns-then-self-clause-failed
returns-then-self-clause-failed g c = inr (other_fault Broken refl, refl)

pub returns-then-self-clause-synced : goal.returns-then-self-clause-synced
returns-then-self-clause-synced g c = λ honest. inl refl

pub returns-then-self-clause-archive : goal.returns-then-self-clause-archive
returns-then-self-clause-archive g c = shows_the_same g.D.Sectors.honest g.D.Sectors.history c.args.self.now c.args.self.now.publication

pub returns-then-self-clause-edits : goal.returns-then-self-clause-edits
returns-then-self-clause-edits g c = λ edits shows is_honest. (refl, shows)

pub returns-in-Ok-clause-edits : goal.returns-in-Ok-clause-edits
returns-in-Ok-clause-edits g c = rw (← c.self.view_is) (λ edits shows is_honest. (
  refl,
  shows_on (service_view c.self.inside) _ _ _ edits refl refl refl
      (λ at inside. sync_seen _ _ (any_sync c.sync.result _ _ (c.sync.ensures.syncs is_honest)) at) shows,
))

pub returns-in-Err-clause-edits : goal.returns-in-Err-clause-edits
returns-in-Err-clause-edits g c = rw (← c.self.view_is) (λ edits shows is_honest. (
  refl,
  shows_on (service_view c.self.inside) _ _ _ edits refl refl refl
      (λ at inside. sync_seen _ _ (any_sync c.sync.result _ _ (c.sync.ensures.syncs is_honest)) at) shows,
))

pub returns-then-self-clause-any_moment : goal.returns-then-self-clause-any_moment
returns-then-self-clause-any_moment g c = λ stored honest up. started (g.D.Sectors.history c.args.self.now.disk) _ up.keeps

pub invariant_of-self : goal.invariant_of-self
invariant_of-self g c = service_on_disk c.sync.ensures.disk.same_count c.self.invariant

pub invariant_of-self-in-Err : goal.invariant_of-self-in-Err
invariant_of-self-in-Err g c = service_idle None refl (service_on_disk c.sync.ensures.disk.same_count c.self.invariant)

pub returns-in-Ok-clause-machine : goal.returns-in-Ok-clause-machine
returns-in-Ok-clause-machine g c = rw (← c.self.view_is) (λ known. (c.if-self.false, refl))

pub returns-in-Ok-clause-same : goal.returns-in-Ok-clause-same
returns-in-Ok-clause-same g c = rw (← c.self.view_is) refl

pub returns-in-Ok-clause-disk : goal.returns-in-Ok-clause-disk
returns-in-Ok-clause-disk g c = rw (← c.self.view_is) c.sync.ensures.disk

pub returns-in-Ok-clause-failed : goal.returns-in-Ok-clause-failed
returns-in-Ok-clause-failed g c = rw (← c.self.view_is) c.in-Ok.ensures.faults

pub returns-in-Ok-clause-synced : goal.returns-in-Ok-clause-synced
returns-in-Ok-clause-synced g c = rw (← c.self.view_is) c.in-Ok.ensures.syncs

pub returns-in-Err-clause-machine : goal.returns-in-Err-clause-machine
returns-in-Err-clause-machine g c = rw (← c.self.view_is) (λ known. (c.if-self.false, tt, refl))

pub returns-in-Err-clause-same : goal.returns-in-Err-clause-same
returns-in-Err-clause-same g c = rw (← c.self.view_is) refl

pub returns-in-Err-clause-refused : goal.returns-in-Err-clause-refused
returns-in-Err-clause-refused g c = λ other. absurd (other refl)

pub returns-in-Err-clause-disk : goal.returns-in-Err-clause-disk
returns-in-Err-clause-disk g c = rw (← c.self.view_is) c.sync.ensures.disk

pub returns-in-Err-clause-synced : goal.returns-in-Err-clause-synced
returns-in-Err-clause-synced g c = rw (← c.self.view_is) c.in-Err.ensures.syncs

-- with an answer the must-fail edit acknowledged_edit_taken_away_for_a_while is refused at once
pub returns-in-Err-clause-failed : goal.returns-in-Err-clause-failed
returns-in-Err-clause-failed g c = rw (← c.self.view_is) (inl (refl, counted_failed _ _ c.in-Err.ensures.faults))

pub returns-in-Ok-clause-archive : goal.returns-in-Ok-clause-archive
returns-in-Ok-clause-archive g c = rw (← c.self.view_is) (record {
  generation = refl;
  snapshot_len = refl;
  archive_len = refl;
  shows = λ archive shown is_honest. sync_shows _ _ (any_sync c.sync.result _ _ (c.sync.ensures.syncs is_honest)) (service_view c.self.inside) archive shown;
  journal = record {
    stays = same_stays c.self.inside.journal c.self.inside.journal refl;
    reads = λ is_honest offset lt. sync_seen _ _ (any_sync c.sync.result _ _ (c.sync.ensures.syncs is_honest)) _;
  };
})

pub returns-in-Err-clause-archive : goal.returns-in-Err-clause-archive
returns-in-Err-clause-archive g c = rw (← c.self.view_is) (record {
  generation = refl;
  snapshot_len = refl;
  archive_len = refl;
  shows = λ archive shown is_honest. sync_shows _ _ (any_sync c.sync.result _ _ (c.sync.ensures.syncs is_honest)) (service_view c.self.inside) archive shown;
  journal = record {
    stays = same_stays c.self.inside.journal c.self.inside.journal refl;
    reads = λ is_honest offset lt. sync_seen _ _ (any_sync c.sync.result _ _ (c.sync.ensures.syncs is_honest)) _;
  };
})
