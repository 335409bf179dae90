-- What a stopped run leaves opens to a service with some first edits of the run.
use Rattle.std.proofs.Common.{◌≡◌, ◌∙◌, ℕ, ◌≤◌, List, take, drop, Option, sym, ap, subst, take-append-drop, take-take}
use Rattle.std.proofs.lemmas.List.Sums.{fold-append}
use Rattle.sector_disk.specs.Disk.{History, seen}
use Rattle.edit_text.specs.Recorded.{RecordedEdit}
use Rattle.feature_store.specs.Store.{FeatureMap}
use Rattle.tile_service.specs.After.{made, after}
use Rattle.tile_service.specs.Headline.{HasSomeFirst, WasStopped}
use Rattle.tile_service.specs.KeptEdits.{HasListed}
use Rattle.tile_service.specs.Machine.{Happening}
use Rattle.tile_service.specs.Runs.{Way, way_of, fitting, ImageFits}
use Rattle.tile_service.specs.Service.{ServiceView, IsUp}
use Rattle.tile_service.specs.Stored.{Stored}
use Rattle.tile_service.proofs.Runs.Callers.{stored_shows}

-- the first i edits are the first j of them and the others
parted : (m : FeatureMap) (edits : List RecordedEdit) (i j : ℕ) → j ≤ i → after (after m (take j edits)) (drop j (take i edits)) ≡ after m (take i edits)
parted m edits i j le =
    ap (λ (es : List RecordedEdit). after (after m es) (drop j (take i edits))) (sym (take-take j i edits le))
    ∙ sym (fold-append made m (take j (take i edits)) (drop j (take i edits)))
    ∙ ap (after m) (take-append-drop j (take i edits))

module _ {D : Type 0} (sectors : D → ℕ) (honest : D → Type 0) (history : D → History) where
  -- the disk holds one of the states that fit
  pub was_left : (start : Stored) (old new : ServiceView D) (happenings : List Happening) (k m : ℕ) (disk : D)
      → WasStopped sectors honest history start old happenings new k m disk
      → ImageFits (sectors disk) old.size start (way_of start.edits old.publication) (take m happenings) k (seen (history disk))
  was_left start old new happenings k m disk was =
      subst (λ (count : ℕ). ImageFits count old.size start (way_of start.edits old.publication) (take m happenings) k (seen (history disk)))
      (sym was.size)
      ((was.run.any_moment start was.honest_to_its_end was.begins).fits k m was.order was.within (seen (history disk)) was.left)

  -- and a service that is opened to that state has some first edits
  pub opens_to_first : (start : Stored) (way : Option Way) (happenings : List Happening) (k count n : ℕ) (disk : D) (service : ServiceView D)
      (fits : ImageFits count n start way happenings k (seen (history disk))) → HasListed start happenings k (take fits.i fits.edits)
      → IsUp (sectors service.disk) (history service.disk) (fitting start fits.edits fits.i fits.j fits.fits.0 fits.fits.1 fits.fits.2) service
      → HasSomeFirst (sectors service.disk) (history service.disk) start way happenings k service
  opens_to_first start way happenings k count n disk service fits listed up =
      let stored = fitting start fits.edits fits.i fits.j fits.fits.0 fits.fits.1 fits.fits.2 in record {
        edits = fits.edits;
        are_edits = fits.are_edits;
        i = fits.i;
        j = fits.j;
        within = fits.within;
        order = fits.order;
        acknowledged_then = fits.acknowledged_then;
        published = fits.published;
        listed = listed;
        has = record {
          stored = stored;
          is_up = up;
          features = up.map_is ∙ parted start.snapshot_map fits.edits fits.i fits.j fits.order;
          archive = stored.archive;
          shows = stored_shows (sectors service.disk) (history service.disk) stored service up;
          is_archive = fits.fits.3.is_archive;
        };
      }
