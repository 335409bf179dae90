-- A run goes on over reads of its disk.
use Rattle.std.proofs.Common.{◌≡◌, ◌≢◌, ◌∙◌, ℕ, ◌+◌, ◌≤◌, List, length, Option, Some, false, refl, sym, ap, subst, arith}
use Rattle.sector_disk.specs.Asked.{OnlyReads}
use Rattle.sector_disk.specs.Disk.{History, moment, seen}
use Rattle.sector_disk.proofs.AskedLaws.{writes_on, reads_may}
use Rattle.tile_service.specs.Machine.{Happening, Runs}
use Rattle.tile_service.specs.Runs.{IsTrusted, Way, way_of}
use Rattle.edit_journal.specs.Appends.{ring_of}
use Rattle.edit_journal.specs.Ring.{sector_at}
use Rattle.tile_service.specs.Service.{ServiceView, StaysInUse, IsUp, ShowsArchive, state_of}
use Rattle.tile_service.specs.Stored.{Stored}
use Rattle.tile_service.proofs.Runs.Callers.{HasRun}
use Rattle.tile_service.proofs.Runs.DiskAfter.{RunLeaves}
use Rattle.tile_service.proofs.Runs.OneEvent.{runs_less}
use Rattle.tile_service.proofs.Tiles.Tags.{knows_same}

-- what some events left of a history is what they left of the same one
leaves_same : (count n : ℕ) (start : Stored) (way : Option Way) (events : List Happening) (old h new : History) → new ≡ h
    → RunLeaves count n start way events old h → RunLeaves count n start way events old new
leaves_same count n start way events old h new same left = record {
  within = left.within;
  by = left.by;
  begins = left.begins;
  goes_on = left.goes_on;
  ends = left.ends ∙ sym same;
  earlier = λ k le. subst (λ (last : History). moment (left.by k) ≤ moment last) (sym same) (left.earlier k le);
  settled = left.settled;
  images = left.images;
}

module _ {D : Type 0} (sectors : D → ℕ) (honest : D → Type 0) (history : D → History) where
  -- ---- a run goes on over a read

  module _ (first now new : ServiceView D) (events : List Happening) (so : HasRun sectors honest history first events now)
      (same : new ≡ record now { disk = new.disk; drafting = new.drafting; published = new.published })
      (reads : OnlyReads sectors honest history now.disk new.disk)
      (still_up : (stored : Stored) → IsUp (sectors now.disk) (history now.disk) stored now → honest new.disk
      → IsUp (sectors new.disk) (history new.disk) stored new) where
    trusted_before : IsTrusted sectors honest history first new → IsTrusted sectors honest history first now
    trusted_before trusted unbroken = let is = trusted unbroken in (reads.was_honest is.0, is.1)

    unbroken_before : new.broken ≡ false → now.broken ≡ false
    unbroken_before is = sym (ap (λ (s : ServiceView D). s.broken) same) ∙ is

    pub run_reads : HasRun sectors honest history first events new
    run_reads = record {
      machine = λ known.
          let so_far = so.machine known in (
            so_far.0,
            subst (λ (s : ServiceView D). Runs (IsTrusted sectors honest history first new) (state_of known first) events (state_of so_far.0 s)) (sym same)
                (runs_less (IsTrusted sectors honest history first new) (IsTrusted sectors honest history first now) trusted_before
                (state_of known first) (state_of so_far.0 now) events so_far.1),
          );
      unbroken = λ is. so.unbroken (unbroken_before is);
      size = ap (λ (s : ServiceView D). s.size) same ∙ so.size;
      version = ap (λ (s : ServiceView D). s.version) same ∙ so.version;
      asked = writes_on so.asked (reads_may reads);
      doubt = λ index lt is. ap (λ (s : ServiceView D). s.broken) same ∙ so.doubt index lt is;
      knows = λ n was known. knows_same now new (ap (λ (s : ServiceView D). s.features) same) (ap (λ (s : ServiceView D). s.touched) same)
          (ap (λ (s : ServiceView D). s.journal.last) same) n was (so.knows n was known);
      keeps_archive = λ none. let so_far = so.keeps_archive none in record {
        generation = ap (λ (s : ServiceView D). s.generation) same ∙ so_far.generation;
        snapshot_len = ap (λ (s : ServiceView D). s.snapshot_len) same ∙ so_far.snapshot_len;
        archive_len = ap (λ (s : ServiceView D). s.archive_len) same ∙ so_far.archive_len;
        shows = λ archive shown is_honest. subst (λ (s : ServiceView D). ShowsArchive (history new.disk) s archive) (sym same)
            (subst (λ (h : History). ShowsArchive h now archive) (sym (reads.same_history is_honest))
            (so_far.shows archive shown (reads.was_honest is_honest)));
        journal = record {
          stays = subst (λ (s : ServiceView D). StaysInUse first.journal s.journal) (sym same) so_far.journal.stays;
          reads = λ is_honest offset lt.
              ap (λ (h : History). seen h (sector_at (ring_of first.journal) (first.journal.place + offset))) (reads.same_history is_honest)
              ∙ so_far.journal.reads (reads.was_honest is_honest) offset lt;
        };
      };
      up = λ stored is_honest up unbroken. let so_far = so.up stored (reads.was_honest is_honest) up (unbroken_before unbroken) in record {
        reached = so_far.reached;
        is_up = still_up so_far.reached so_far.is_up is_honest;
        reaches = so_far.reaches;
        way_is = ap (λ (s : ServiceView D). way_of stored.edits s.publication) same ∙ so_far.way_is;
      };
      leaves = λ stored is_honest up. leaves_same (sectors first.disk) first.size stored (way_of stored.edits first.publication) events
          (history first.disk) (history now.disk) (history new.disk) (reads.same_history is_honest)
          (so.leaves stored (reads.was_honest is_honest) up);
    }

    -- by the same histories
    pub reads_by : (stored : Stored) (is_honest : honest new.disk) (up : IsUp (sectors first.disk) (history first.disk) stored first) (k : ℕ)
        → (run_reads.leaves stored is_honest up).by k ≡ (so.leaves stored (reads.was_honest is_honest) up).by k
    unfolding run_reads leaves_same
    reads_by stored is_honest up k = refl
