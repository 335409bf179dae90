-- A run by the states of the service, where downloads and parts of tiles are read between its calls, and a publication is prepared.
use Rattle.std.specs.Prelude.{◌≡◌, ◌<◌, ◌≤◌, ℕ, suc, List, length}
use Rattle.sector_disk.specs.Asked.{OnlyReads}
use Rattle.sector_disk.specs.Disk.{History, moment, LeftSince, seen}
use Rattle.tile_service.specs.Machine.{Happening}
use Rattle.tile_service.specs.Runs.{happening_at, way_of, RunFits, Takes}
use Rattle.tile_service.specs.Service.{ServiceView, IsUp}
use Rattle.tile_service.specs.Stored.{Stored}

-- over a disk with these sectors, this honesty and this history
module _ {D : Type 0} (sectors : D → ℕ) (honest : D → Type 0) (history : D → History) where
  -- Nothing happened to the service but reads of its disk, after which other bytes of the archive may be cached, and steps that prepare a publication.
  -- If it continued from what is stored, it does so after them.
  pub record WasRead (old new : ServiceView D) : Type 0 where
    pub same : new ≡ record old { disk = new.disk; drafting = new.drafting; published = new.published }
    pub disk : OnlyReads sectors honest history old.disk new.disk
    pub up : (stored : Stored) → IsUp (sectors old.disk) (history old.disk) stored old → honest new.disk
        → IsUp (sectors new.disk) (history new.disk) stored new

  -- The happenings in order, each from one state of the service to the next: `at k` is the state when the first k calls had returned, and
  -- `from k` that in which the next one begins, once downloads were read or a publication was prepared. What a crash leaves is by the histories of the
  -- disks `at k`.
  pub record TakesBetweenReads (old : ServiceView D) (happenings : List Happening) (new : ServiceView D) : Type 0 where
    pub at : ℕ → ServiceView D
    pub from : ℕ → ServiceView D
    pub begins : at 0 ≡ old
    pub reads : (k : ℕ) → k ≤ length happenings → WasRead (at k) (from k)
    pub takes : (k : ℕ) → k < length happenings → Takes sectors honest history (from k) (happening_at happenings k) (at (suc k))
    pub ends : from (length happenings) ≡ new
    pub any_moment : (stored : Stored) → honest new.disk → IsUp (sectors old.disk) (history old.disk) stored old
        → RunFits (sectors old.disk) old.size stored (way_of stored.edits old.publication) happenings (history old.disk) (history new.disk)
        (λ k. history (at k).disk)

  -- Such a run was stopped at some moment after the first k of its calls had returned and before the first m had, and this disk is one that a crash may
  -- leave then: reads of it return one of the images.
  pub record WasStoppedBetweenReads (start : Stored) (old : ServiceView D) (happenings : List Happening) (new : ServiceView D) (k m : ℕ) (disk : D)
      : Type 0 where
    pub begins : IsUp (sectors old.disk) (history old.disk) start old
    pub run : TakesBetweenReads old happenings new
    pub honest_to_its_end : honest new.disk
    pub order : k ≤ m
    pub within : m ≤ length happenings
    pub size : sectors disk ≡ sectors old.disk
    pub left : LeftSince (history (run.at m).disk) (moment (history (run.at k).disk)) (seen (history disk))
