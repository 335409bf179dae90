-- A disk that is upgraded holds what it held, in the last version.
use Rattle.std.proofs.Common.{◌≡◌, ◌⊎◌, inl, inr, ⊎_elim, ℕ, ◌<◌, List, Result, Ok, Err, IfErr, OnOk, sym, subst, arith}
use Rattle.std.specs.List.{All}
use Rattle.std.proofs.lemmas.Bool.{cases_eq}
use Rattle.std.proofs.lemmas.List.Elements.{All-weaker}
use Rattle.std.proofs.lemmas.Result.{on_ok_weaker}
use Rattle.sector_disk.specs.Disk.{Image, History, seen, MayLeave}
use Rattle.sector_disk.specs.Moments.{LeavesOnly}
use Rattle.sector_disk.proofs.History.{weaken}
use Rattle.generations.specs.Areas.{journal_sectors}
use Rattle.generations.specs.Disks.{IsFaultOf}
use Rattle.generations.specs.Sectors.{IsFormat, version_from}
use Rattle.generations.specs.Upgrades.{IsUpgraded, Upgrades}
use Rattle.generations.specs.declared.fault.StoreFault.{StoreFault}
use Rattle.generations.specs.declared.fault.StoreFault.TheVariants.{Device}
use Rattle.generations.specs.declared.sizes.TheConstants.{LAST_VERSION}
use Rattle.generations.proofs.Laws.{live_no_fault}
use Rattle.generations.proofs.Upgrades.{upgraded_live, upgraded_version}
use Rattle.tile_service.specs.Stored.{Stored, Holds, HoldsAt, Keeps, CanRecord, root_of, stored_records, journal_ring, journal_start, upgraded}
use Rattle.tile_service.proofs.Disk.OneState.{version_known, version_most}
use Rattle.tile_service.proofs.Publications.AfterWrites.{live_can, same_ring}
use Rattle.tile_service.proofs.Disk.Roots.{lives}

module _ (count n : ℕ) (stored : Stored) (before image : Image) (holds : Holds count n stored before) (is : IsUpgraded count before image) where
  format_there : IsFormat count (image 0) n
  format_there = (upgraded_live count before image is n (root_of stored) (lives count before n stored holds)).format

  version_there : version_from (image 0) ≡ LAST_VERSION
  version_there = upgraded_version count before image is

  each : (at : ℕ) → HoldsAt count n (upgraded stored) at (image at)
  each at = ⊎_elim
      (λ (same : at ≡ 0). record {
        format = λ first. subst (λ (a : ℕ). IsFormat count (image a) n) (sym same) format_there;
        version = λ first. subst (λ (a : ℕ). version_from (image a) ≡ LAST_VERSION) (sym same) version_there;
        live = λ root. absurd (omega (arith, same, root));
        other = λ root. absurd (omega (arith, same, root));
        snapshot_bytes = λ index there. absurd (omega (arith, same, there));
        archive_bytes = λ index there. absurd (omega (arith, same, there));
      })
      (λ (apart : at ≡ 0 → ⊥). subst (λ (s : List ℕ). HoldsAt count n (upgraded stored) at s) (sym (is.others at apart)) (record {
        format = λ first. absurd (apart first);
        version = λ first. absurd (apart first);
        live = (holds.sectors at).live;
        other = (holds.sectors at).other;
        snapshot_bytes = (holds.sectors at).snapshot_bytes;
        archive_bytes = (holds.sectors at).archive_bytes;
      }))
      (cases_eq at 0)

  some_place : 0 < journal_sectors n
  some_place = omega (arith, (live_can count n stored before holds).journal)

  still : All (CanRecord LAST_VERSION) stored.since
  still = All-weaker (CanRecord stored.version) (CanRecord LAST_VERSION)
      (λ e can. record {
        recorded = can.recorded;
        version_is = omega (arith, can.version_is, version_most stored.version (version_known count n stored before holds));
      })
      stored.since holds.are_edits

  pub upgraded_holds : Holds count n (upgraded stored) image
  upgraded_holds = record {
    sectors = each;
    journal = same_ring (journal_ring n) (journal_start stored) (stored_records stored) before image some_place
        (λ at inside. is.others at (λ first. omega (arith, inside.0, first))) holds.journal;
    is_map = holds.is_map;
    are_edits = still;
    is_archive = holds.is_archive;
  }

module _ (count n : ℕ) (stored : Stored) (old new : History) (holds : Holds count n stored (seen old)) where
  upgrade_or : (image : Image) → Upgrades count old image → MayLeave old image ⊎ Holds count n (upgraded stored) image
  upgrade_or image (inl was) = inl was
  upgrade_or image (inr is) = inr (upgraded_holds count n stored (seen old) image holds is)

  -- what an upgrade leaves at each moment,
  pub upgrade_leaves : LeavesOnly old new (Upgrades count old) → LeavesOnly old new (λ image. MayLeave old image ⊎ Holds count n (upgraded stored) image)
  upgrade_leaves leaves = weaken old new _ _ leaves upgrade_or

  -- what it leaves once it is done,
  pub upgrade_keeps : (sectors : ℕ) (result : Result (Unit {0}) StoreFault) → sectors ≡ count
      → OnOk result ((image : Image) → MayLeave new image → IsUpgraded count (seen old) image) → OnOk result (Keeps sectors n (upgraded stored) new)
  upgrade_keeps sectors result same all = on_ok_weaker result
      (λ every image may. subst (λ (c : ℕ). Holds c n (upgraded stored) image) (sym same)
      (upgraded_holds count n stored (seen old) image holds (every image may)))
      all

  -- and why it may fail
  pub upgrade_refused : (result : Result (Unit {0}) StoreFault) → IfErr result (λ fault. (fault ≡ Device) ⊎ IsFaultOf count (seen old) fault)
      → IfErr result (λ fault. fault ≡ Device)
  upgrade_refused (Ok done) why = tt
  upgrade_refused (Err fault) (inl device) = device
  upgrade_refused (Err fault) (inr bad) =
      absurd (live_no_fault count (seen old) n (root_of stored) fault (lives count (seen old) n stored holds) bad)
