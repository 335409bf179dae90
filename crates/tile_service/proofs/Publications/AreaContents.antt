-- The sectors of a snapshot and its archive, as they are written into an area.
use Rattle.std.proofs.Common.{◌≡◌, ⊎_elim, ℕ, ◌<◌, ◌≤◌, ◌+◌, List, [], length, Result, Ok, Err, OnOk, refl, sym, subst, arith}
use Rattle.std.proofs.lemmas.Bool.{cases_eq, cases_lt}
use Rattle.std.proofs.lemmas.Nat.{mod_below}
use Rattle.sector_disk.specs.Disk.{Image, History, seen, Writes}
use Rattle.sector_disk.specs.Disk.History.{wrote}
use Rattle.sector_disk.specs.declared.disk.DiskFault.{DiskFault}
use Rattle.sector_disk.proofs.History.{seen_same, seen_other}
use Rattle.sector_bytes.specs.Bytes.{sector_piece}
use Rattle.generations.specs.Areas.{journal_sectors, area_start, sectors_of}
use Rattle.edit_journal.specs.Appends.{IsFree, ReadsAsBefore}
use Rattle.tile_service.specs.Publishing.{BeginsWith, IsContentSector, HasFirst, HasArea}
use Rattle.tile_service.specs.Stored.{journal_ring}
use Rattle.tile_service.proofs.Publications.AfterWrites.{no_piece_behind}

-- every sector begins with no bytes
begins_with_none : (bytes sector : List ℕ) → bytes ≡ [] → BeginsWith bytes sector
begins_with_none bytes sector none = subst (λ (b : List ℕ). BeginsWith b sector) (sym none) refl

module _ (snapshot_bytes archive_bytes : List ℕ) where
  -- Sectors that begin with the pieces of the snapshot, and after them with those of the archive, are its sectors.
  pub content_sector : (sector_of : ℕ → List ℕ)
      → ((index : ℕ) → index < sectors_of (length snapshot_bytes) → BeginsWith (sector_piece snapshot_bytes index) (sector_of index))
      → ((behind : ℕ) → BeginsWith (sector_piece archive_bytes behind) (sector_of (sectors_of (length snapshot_bytes) + behind)))
      → (index : ℕ) → IsContentSector snapshot_bytes archive_bytes index (sector_of index)
  content_sector sector_of first rest index = record {
    of_snapshot = ⊎_elim
        (λ (lt : index < sectors_of (length snapshot_bytes)). first index lt)
        (λ (past : sectors_of (length snapshot_bytes) ≤ index).
        begins_with_none (sector_piece snapshot_bytes index) (sector_of index) (no_piece_behind snapshot_bytes index past))
        (cases_lt index (sectors_of (length snapshot_bytes)));
    of_archive = λ behind is. subst (λ (i : ℕ). BeginsWith (sector_piece archive_bytes behind) (sector_of i)) (sym is) (rest behind);
  }

  module _ (n generation : ℕ) where
    -- before the first write
    pub none_written : (image : Image) → HasFirst n generation snapshot_bytes archive_bytes 0 image
    none_written image index lt = absurd (omega (arith, lt))

    -- After the write of the next sector of the content a read gives one more of them.
    pub written_stands : (written : ℕ) (sector : List ℕ) (old : History) → HasFirst n generation snapshot_bytes archive_bytes written (seen old)
        → IsContentSector snapshot_bytes archive_bytes written sector
        → HasFirst n generation snapshot_bytes archive_bytes (written + 1) (seen (wrote (area_start n generation + written) sector old))
    written_stands written sector old so_far is index lt = ⊎_elim
        (λ (last : index ≡ written). subst (λ (s : List ℕ). IsContentSector snapshot_bytes archive_bytes index s)
        (sym (seen_same (area_start n generation + written) sector old (area_start n generation + index) (omega (arith, last))))
        (subst (λ (i : ℕ). IsContentSector snapshot_bytes archive_bytes i sector) (sym last) is))
        (λ (sooner : index ≡ written → ⊥). subst (λ (s : List ℕ). IsContentSector snapshot_bytes archive_bytes index s)
        (sym (seen_other (area_start n generation + written) sector old (area_start n generation + index) (λ same. sooner (omega (arith, same)))))
        (so_far index (omega (arith, sooner, lt))))
        (cases_eq index written)

    -- The same by the clause of a write that succeeded.
    pub write_stands : (result : Result (Unit {0}) DiskFault) (written : ℕ) (sector : List ℕ) (old new : History)
        → HasFirst n generation snapshot_bytes archive_bytes written (seen old) → IsContentSector snapshot_bytes archive_bytes written sector
        → Writes result (area_start n generation + written) sector old new
        → OnOk result (HasFirst n generation snapshot_bytes archive_bytes (written + 1) (seen new))
    write_stands (Ok done) written sector old new so_far is writes =
        subst (λ (h : History). HasFirst n generation snapshot_bytes archive_bytes (written + 1) (seen h)) (sym writes)
        (written_stands written sector old so_far is)
    write_stands (Err fault) written sector old new so_far is writes = tt

    -- Once all are written, the snapshot and the archive are in the area.
    pub content_stands : (image : Image)
        → HasFirst n generation snapshot_bytes archive_bytes (sectors_of (length snapshot_bytes) + sectors_of (length archive_bytes)) image
        → HasArea n generation snapshot_bytes archive_bytes image
    content_stands image all = record {
      snapshot_stands = λ at index is. ⊎_elim
          (λ (lt : index < sectors_of (length snapshot_bytes)). subst (λ (i : ℕ). BeginsWith (sector_piece snapshot_bytes index) (image i)) (sym is)
          (all index (omega (arith, lt))).of_snapshot)
          (λ (past : sectors_of (length snapshot_bytes) ≤ index).
          begins_with_none (sector_piece snapshot_bytes index) (image at) (no_piece_behind snapshot_bytes index past))
          (cases_lt index (sectors_of (length snapshot_bytes)));
      archive_stands = λ at behind is. ⊎_elim
          (λ (lt : behind < sectors_of (length archive_bytes)). subst (λ (i : ℕ). BeginsWith (sector_piece archive_bytes behind) (image i))
          (sym (at_is at behind is))
          ((all (sectors_of (length snapshot_bytes) + behind) (omega (arith, lt))).of_archive behind refl))
          (λ (past : sectors_of (length archive_bytes) ≤ behind).
          begins_with_none (sector_piece archive_bytes behind) (image at) (no_piece_behind archive_bytes behind past))
          (cases_lt behind (sectors_of (length archive_bytes)));
    }
      where
        at_is : (at behind : ℕ) → at ≡ area_start n generation + sectors_of (length snapshot_bytes) + behind
            → at ≡ area_start n generation + (sectors_of (length snapshot_bytes) + behind)
        at_is at behind is = omega (arith, is)

    -- ---- calls in between

    -- If reads after the journal are unchanged, the area has what it had.
    pub still_stands : (written : ℕ) (old new : Image) → ((at : ℕ) → 3 + journal_sectors n ≤ at → new at ≡ old at)
        → HasFirst n generation snapshot_bytes archive_bytes written old → HasFirst n generation snapshot_bytes archive_bytes written new
    still_stands written old new same first index lt =
        subst (λ (s : List ℕ). IsContentSector snapshot_bytes archive_bytes index s) (sym (same (area_start n generation + index) (omega arith)))
        (first index lt)

    -- An append to the journal, reported as done or as failed, leaves the area as it reads.
    pub append_keeps_area : (written place used : ℕ) (old new : Image) → ReadsAsBefore (journal_ring n) place used old new
        → HasFirst n generation snapshot_bytes archive_bytes written old → HasFirst n generation snapshot_bytes archive_bytes written new
    append_keeps_area written place used old new reads = still_stands written old new (λ at behind. reads at (λ free. in_journal at behind free))
      where
        in_journal : (at : ℕ) → 3 + journal_sectors n ≤ at → IsFree (journal_ring n) place used at → ⊥
        in_journal at behind free =
            omega (arith, behind, free.3, mod_below (place + free.0) (journal_sectors n) (omega (arith, free.2)))
