-- What an append to the journal leaves of what a disk holds.
use Rattle.std.proofs.Common.{◌≡◌, ◌⊎◌, inl, inr, ⊎_elim, ℕ, ◌<◌, ◌≤◌, ◌+◌, ◌==◌, if◌then◌else◌}
use Rattle.std.proofs.Common.{List, [], ◌∷◌, ◌++◌, map, refl, sym, ap, subst, arith}
use Rattle.std.proofs.lemmas.Bool.{cases_eq, cases_lt}
use Rattle.std.proofs.lemmas.Bool.Decides.{nat_tests}
use Rattle.std.proofs.lemmas.List.Elements.{All-nil, All-cons, All-append}
use Rattle.std.proofs.lemmas.Nat.{mod_below}
use Rattle.sector_disk.specs.Disk.{Image, History, seen, MayHold, MayLeave}
use Rattle.sector_disk.proofs.Laws.{seen_is_left}
use Rattle.generations.specs.Areas.{journal_sectors}
use Rattle.edit_journal.specs.Records.{RecordData}
use Rattle.edit_journal.specs.Ring.{IsInRing, HoldsOnly}
use Rattle.edit_journal.specs.Appends.{IsFree, AsBefore, HoldsOneMore}
use Rattle.edit_text.specs.Recorded.{RecordedEdit}
use Rattle.tile_service.specs.Stored.{Stored, Holds, HoldsAt, Keeps, with_edit, CanRecord, record_for, stored_records, journal_ring, journal_start}

-- what might have stood in a sector has its part, where all that a crash left held it
sector_held : (count n : ℕ) (stored : Stored) (history : History) → Keeps count n stored history
    → (at : ℕ) (left : List ℕ) → MayHold history at left → HoldsAt count n stored at left
sector_held count n stored history keeps at left may =
    subst (λ (s : List ℕ). HoldsAt count n stored at s) here ((keeps picked is_left).sectors at)
  where
    picked : Image
    picked index = if index == at then left else seen history index

    here : picked at ≡ left
    here = grind (arith, nat_tests)

    is_left : MayLeave history picked
    is_left index = ⊎_elim
        (λ (same : index ≡ at). subst (MayHold history index) (sym (there index same)) (subst (λ (i : ℕ). MayHold history i left) (sym same) may))
        (λ (apart : index ≡ at → ⊥). subst (MayHold history index) (sym (elsewhere index apart)) (seen_is_left history index))
        (cases_eq index at)
      where
        there : (index : ℕ) → index ≡ at → picked index ≡ left
        there index same = grind (arith, nat_tests, same)

        elsewhere : (index : ℕ) → (index ≡ at → ⊥) → picked index ≡ seen history index
        elsewhere index apart = grind (arith, nat_tests, apart)

-- nothing but records is stored in the ring
ring_held : (count n : ℕ) (stored : Stored) (at : ℕ) (sector : List ℕ) → IsInRing (journal_ring n) at → HoldsAt count n stored at sector
ring_held count n stored at sector inside = record {
  format = λ is. absurd (omega (arith, inside.0, is));
  version = λ is. absurd (omega (arith, inside.0, is));
  live = λ is. absurd (omega (arith, inside.0, is));
  other = λ is. absurd (omega (arith, inside.0, is));
  snapshot_bytes = λ index is. absurd (omega (arith, inside.1, is));
  archive_bytes = λ index is. absurd (omega (arith, inside.1, is));
}

decided : (n at : ℕ) → IsInRing (journal_ring n) at ⊎ (IsInRing (journal_ring n) at → ⊥)
decided n at = ⊎_elim
    (λ (low : at < 3). inr (λ inside. omega (arith, inside.0, low)))
    (λ (high : 3 ≤ at). ⊎_elim
    (λ (inside : at < 3 + journal_sectors n). inl (high, inside))
    (λ (behind : 3 + journal_sectors n ≤ at). inr (λ inside. omega (arith, inside.1, behind)))
    (cases_lt at (3 + journal_sectors n)))
    (cases_lt at 3)

-- a free place is one of the ring's
free_inside : (n place used at : ℕ) → IsFree (journal_ring n) place used at → IsInRing (journal_ring n) at
free_inside n place used at free = (omega (arith, free.3), omega (arith, free.3, mod_below (place + free.0) (journal_sectors n) (omega (arith, free.2))))

record_with : (edits : List RecordedEdit) (edit : RecordedEdit) → map record_for (edits ++ edit ∷ []) ≡ map record_for edits ++ record_for edit ∷ []
record_with [] edit = refl
record_with (first ∷ edits) edit = ap (λ (records : List RecordData). record_for first ∷ records) (record_with edits edit)

pub records_with : (stored : Stored) (edit : RecordedEdit) → stored_records (with_edit stored edit) ≡ stored_records stored ++ record_for edit ∷ []
records_with stored edit = record_with stored.since edit

module _ (count n : ℕ) (stored : Stored) (edit : RecordedEdit) (old : History) (place used : ℕ) (keeps : Keeps count n stored old)
    (can : CanRecord stored.version edit) (image : Image) (as_before : AsBefore (journal_ring n) place used old image) where
  sectors : (at : ℕ) → HoldsAt count n stored at (image at)
  sectors at = ⊎_elim
      (λ (inside : IsInRing (journal_ring n) at). ring_held count n stored at (image at) inside)
      (λ (outside : IsInRing (journal_ring n) at → ⊥). sector_held count n stored old keeps at (image at)
      (as_before at (λ free. outside (free_inside n place used at free))))
      (decided n at)

  before : Holds count n stored (seen old)
  before = keeps (seen old) (seen_is_left old)

  with_one : {at : ℕ} → HoldsAt count n stored at (image at) → HoldsAt count n (with_edit stored edit) at (image at)
  with_one is = record {
    format = is.format;
    version = is.version;
    live = is.live;
    other = is.other;
    snapshot_bytes = is.snapshot_bytes;
    archive_bytes = is.archive_bytes;
  }

  -- Where the journal has the edit too, it holds the same with the edit.
  pub append_made : HoldsOnly (journal_ring n) (journal_start stored) (stored_records stored ++ record_for edit ∷ []) image
      → Holds count n (with_edit stored edit) image
  append_made more = record {
    sectors = λ at. with_one (sectors at);
    journal = subst (λ (records : List RecordData). HoldsOnly (journal_ring n) (journal_start stored) records image)
        (sym (records_with stored edit)) more;
    is_map = before.is_map;
    are_edits = All-append (CanRecord stored.version) stored.since (edit ∷ []) before.are_edits
        (All-cons (CanRecord stored.version) edit [] can (All-nil (CanRecord stored.version)));
    is_archive = before.is_archive;
  }

  -- It holds the same, or the same with the edit.
  pub append_leaves : HoldsOneMore (journal_ring n) (journal_start stored) (stored_records stored) (record_for edit) image
      → Holds count n stored image ⊎ Holds count n (with_edit stored edit) image
  append_leaves (inl same) = inl (record {
    sectors = sectors;
    journal = same;
    is_map = before.is_map;
    are_edits = before.are_edits;
    is_archive = before.is_archive;
  })
  append_leaves (inr more) = inr (append_made more)
