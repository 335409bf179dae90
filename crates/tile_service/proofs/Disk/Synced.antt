-- A sync of the disk: it leaves what is stored, and the service continues after it.
use Rattle.std.specs.Prelude.{Option, IfSome}
use Rattle.std.proofs.Common.{◌≡◌, ◌⊎◌, inr, ⊎_elim, ℕ, List, suc, None, Some, Result, Ok, Err, sym, ap, subst}
use Rattle.sector_disk.specs.Disk.{History, seen}
use Rattle.sector_disk.specs.Disk.History.{synced}
use Rattle.sector_disk.specs.Moments.{LeavesOnly}
use Rattle.sector_disk.proofs.History.{started}
use Rattle.feature_store.specs.Store.{snapshot}
use Rattle.tile_service.specs.Publishing.{map_at}
use Rattle.tile_service.specs.Service.{PublicationView, ServiceView, Publishes, IsUp, ShowsArchive, SyncsDisk, count_at}
use Rattle.tile_service.specs.Stored.{Stored, Holds}
use Rattle.tile_service.specs.declared.fault.ServiceFault.{ServiceFault}
use Rattle.tile_service.proofs.Archive.Read.{up_moved}
use Rattle.tile_service.proofs.Publications.StepWrites.{sync_first, sync_keeps, sync_holds}

-- a check of the disk synced it, or did nothing
pub any_check : (result : Result (Unit {0}) ServiceFault) (old new : History) → SyncsDisk result old new → (new ≡ old) ⊎ (new ≡ synced old)
any_check (Ok done) old new is = inr is
any_check (Err fault) old new is = is

module _ (old new : History) (syncs : (new ≡ old) ⊎ (new ≡ synced old)) where
  -- each sector is read as before
  pub sync_seen : (at : ℕ) → seen new at ≡ seen old at
  sync_seen at = ⊎_elim (λ same. ap (λ (h : History). seen h at) same) (λ is. ap (λ (h : History). seen h at) is) syncs

  -- the archive that a service shows is shown still
  pub sync_shows : {D : Type 0} (service : ServiceView D) (archive : List ℕ) → ShowsArchive old service archive → ShowsArchive new service archive
  sync_shows service archive shown = ⊎_elim
      (λ same. subst (λ (h : History). ShowsArchive h service archive) (sym same) shown)
      (λ is. subst (λ (h : History). ShowsArchive h service archive) (sym is) shown) syncs

  -- a publication under way is one still
  publishes_on : (n : ℕ) (stored : Stored) (p : Option PublicationView) → IfSome p (Publishes n stored old) → IfSome p (Publishes n stored new)
  publishes_on n stored None publishes = tt
  publishes_on n stored (Some p) publishes = record {
    later = publishes.later;
    under_way = record {
      can = publishes.under_way.can;
      first = sync_first old new syncs n (suc stored.generation) (snapshot (map_at stored (count_at stored p))) p.content.archive p.written
          publishes.under_way.first;
    };
    snapshot_is = publishes.snapshot_is;
    place_is = publishes.place_is;
    places_are = publishes.places_are;
  }

  module _ {D : Type 0} (sectors : ℕ) (stored : Stored) (service : ServiceView D) (up : IsUp sectors old stored service) where
    -- A crash leaves what was stored,
    pub sync_leaves_stored : LeavesOnly old new (Holds sectors service.size stored)
    sync_leaves_stored = sync_holds old new syncs sectors service.size stored old
        (started old (Holds sectors service.size stored) up.keeps) up.keeps

    -- and the service continues from that.
    pub up_synced : (disk : D) (count : ℕ) → count ≡ sectors → IsUp count new stored (record service { disk = disk })
    up_synced disk count same = subst (λ (k : ℕ). IsUp k new stored (record service { disk = disk })) (sym same)
        (up_moved sectors old stored service up disk service.publication service.published service.kept sectors new
        (sync_keeps old new syncs sectors service.size stored up.keeps) (publishes_on service.size stored service.publication up.publication)
        up.archived up.reads (λ at inside. sync_seen at))
