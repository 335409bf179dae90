-- The headline: what a service has that opens a disk after a stop in the middle of a run.
use Rattle.std.specs.Prelude.{◌≡◌, ◌≤◌, ℕ, List, length, take, Option}
use Rattle.sector_disk.specs.Disk.{History, moment, LeftSince, seen}
use Rattle.edit_text.specs.Recorded.{RecordedEdit}
use Rattle.tile_service.specs.After.{after}
use Rattle.tile_service.specs.KeptEdits.{HasListed}
use Rattle.tile_service.specs.Machine.{Happening}
use Rattle.tile_service.specs.Runs.{Way, all_edits, AreEditsOf, starts, IsPublished, TakesStates}
use Rattle.tile_service.specs.Service.{ServiceView, IsUp, ShowsArchive}
use Rattle.tile_service.specs.Stored.{Stored, IsMapArchive}

-- The service continues from what its disk holds. Its map is that after the first i edits since a start, and its archive is one of exactly
-- the tiles of the map after the first j of them, or empty if that map has no tile.
pub record HasFirst {D : Type 0} (sectors : ℕ) (history : History) (start : Stored) (edits : List RecordedEdit) (i j : ℕ) (service : ServiceView D)
    : Type 0 where
  pub stored : Stored
  pub is_up : IsUp sectors history stored service
  pub features : service.features ≡ after start.snapshot_map (take i edits)
  pub archive : List ℕ
  pub shows : ShowsArchive history service archive
  pub is_archive : IsMapArchive (after start.snapshot_map (take j edits)) archive

-- The service has the map after some first edits of the run up to these happenings, all that were acknowledged by the first k of them and all that
-- these listed among them, and the archive of a publication that was current since then, or of one that is in doubt.
pub record HasSomeFirst {D : Type 0} (sectors : ℕ) (history : History) (start : Stored) (way : Option Way) (happenings : List Happening) (k : ℕ)
    (service : ServiceView D) : Type 0 where
  pub edits : List RecordedEdit
  pub are_edits : AreEditsOf start happenings edits
  pub i : ℕ
  pub j : ℕ
  pub within : i ≤ length edits
  pub order : j ≤ i
  pub acknowledged_then : length (all_edits start (take k happenings)) ≤ i
  pub published : IsPublished (starts start way) happenings k j
  -- each edit that was listed by then is one of them
  pub listed : HasListed start happenings k (take i edits)
  pub has : HasFirst sectors history start edits i j service

-- A run on a disk was stopped at some moment after the first k of its calls had returned and before the first m had, and this disk is one
-- that a crash may leave then: reads of it return one of the images.
pub record WasStopped {D : Type 0} (sectors : D → ℕ) (honest : D → Type 0) (history : D → History) (start : Stored) (old : ServiceView D)
    (happenings : List Happening) (new : ServiceView D) (k m : ℕ) (disk : D) : Type 0 where
  pub begins : IsUp (sectors old.disk) (history old.disk) start old
  pub run : TakesStates sectors honest history old happenings new
  pub honest_to_its_end : honest new.disk
  pub order : k ≤ m
  pub within : m ≤ length happenings
  pub size : sectors disk ≡ sectors old.disk
  pub left : LeftSince (history (run.at m).disk) (moment (history (run.at k).disk)) (seen (history disk))
