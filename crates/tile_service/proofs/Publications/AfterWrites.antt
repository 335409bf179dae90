-- What the writes of a publication leave of what a disk holds.
use Rattle.std.proofs.Common.{◌≡◌, ◌⊎◌, inl, inr, ⊎_elim, ℕ, suc, ◌<◌, ◌≤◌, ◌+◌, ◌*◌, ◌%◌, ◌==◌, if◌then◌else◌}
use Rattle.std.proofs.Common.{List, [], ◌∷◌, length, take, Result, refl, sym, ◌∙◌, ap, subst, arith}
use Rattle.std.proofs.lemmas.Bool.{cases_eq, cases_lt}
use Rattle.std.proofs.lemmas.Bool.Decides.{nat_tests}
use Rattle.std.proofs.lemmas.List.{drop_all}
use Rattle.std.proofs.lemmas.Nat.{mod_below}
use Rattle.sector_disk.specs.Disk.{Image, History, seen, MayHold, MayLeave, FailedWrite, Writes}
use Rattle.sector_disk.specs.Moments.{LeavesOnly}
use Rattle.sector_disk.specs.declared.disk.DiskFault.{DiskFault}
use Rattle.sector_disk.specs.declared.disk.TheConstants.{SECTOR_BYTES}
use Rattle.sector_disk.proofs.History.{started, seen_may, any_write, write_leaves}
use Rattle.sector_bytes.specs.Bytes.{sector_piece}
use Rattle.generations.specs.Areas.{journal_sectors, area_sectors, area_start, sectors_of}
use Rattle.generations.specs.Sectors.{CanStand}
use Rattle.edit_journal.specs.Records.{RecordData, IsHeadOf}
use Rattle.edit_journal.specs.Ring.{Ring, RecordStart, start_behind, IsInRing, StandsAt, HoldsOnly}
use Rattle.feature_store.specs.Store.{snapshot}
use Rattle.tile_service.specs.Publishing.{IsInArea, IsBeside}
use Rattle.tile_service.specs.Stored.{Stored, Holds, HoldsAt, HasBytes, Keeps, root_of, journal_ring}

-- ---- the two areas

-- the area of a generation is the first one and that of the next one the second, or the other way round
starts : (n generation : ℕ)
    → ((area_start n generation ≡ 3 + journal_sectors n) × (area_start n (suc generation) ≡ 3 + journal_sectors n + area_sectors n))
    ⊎ ((area_start n generation ≡ 3 + journal_sectors n + area_sectors n) × (area_start n (suc generation) ≡ 3 + journal_sectors n))
starts n generation = ⊎_elim
    (λ (even : generation % 2 ≡ 0). inl (first generation even, second (suc generation) (omega (arith, even))))
    (λ (odd : generation % 2 ≡ 0 → ⊥). inr (second generation (omega (arith, odd)), first (suc generation) (omega (arith, odd))))
    (cases_eq (generation % 2) 0)
  where
    first : (g : ℕ) → g % 2 ≡ 0 → area_start n g ≡ 3 + journal_sectors n
    first g is = ap (λ (p : ℕ). 3 + journal_sectors n + p * area_sectors n) is ∙ omega arith

    second : (g : ℕ) → g % 2 ≡ 1 → area_start n g ≡ 3 + journal_sectors n + area_sectors n
    second g is = ap (λ (p : ℕ). 3 + journal_sectors n + p * area_sectors n) is ∙ omega arith

-- an area is after the journal
pub behind_ring : (n generation at : ℕ) → IsInArea n generation at → 3 + journal_sectors n ≤ at
behind_ring n generation at inside = ⊎_elim (λ is. omega (arith, inside.0)) (λ is. omega (arith, is.0, inside.0)) (starts n generation)

-- and the areas of a generation and of the next one have no sector in common
pub areas_apart : (n generation at index : ℕ) → IsInArea n (suc generation) at → index < area_sectors n → at ≡ area_start n generation + index → ⊥
areas_apart n generation at index inside lt same = ⊎_elim
    (λ is. omega (arith, is.0, is.1, inside.0, lt, same)) (λ is. omega (arith, is.0, is.1, inside.1, same)) (starts n generation)

in_area_or_not : (n generation at : ℕ) → IsInArea n generation at ⊎ (IsInArea n generation at → ⊥)
in_area_or_not n generation at = ⊎_elim
    (λ (low : at < area_start n generation). inr (λ inside. omega (arith, inside.0, low)))
    (λ (high : area_start n generation ≤ at). ⊎_elim
    (λ (inside : at < area_start n generation + area_sectors n). inl (high, inside))
    (λ (behind : area_start n generation + area_sectors n ≤ at). inr (λ inside. omega (arith, inside.1, behind)))
    (cases_lt at (area_start n generation + area_sectors n)))
    (cases_lt at (area_start n generation))

-- ---- bytes and records that lie elsewhere

-- after their last sector bytes have no piece
pub no_piece_behind : (bytes : List ℕ) (index : ℕ) → sectors_of (length bytes) ≤ index → sector_piece bytes index ≡ []
no_piece_behind bytes index behind = ap (take SECTOR_BYTES) (drop_all (SECTOR_BYTES * index) bytes (omega (arith, behind)))

-- a sector that none of the bytes take is as they say
bytes_elsewhere : (first : ℕ) (bytes : List ℕ) (at : ℕ) (sector : List ℕ)
    → ((index : ℕ) → index < sectors_of (length bytes) → at ≡ first + index → ⊥) → HasBytes first bytes at sector
bytes_elsewhere first bytes at sector apart index is = ⊎_elim
    (λ (lt : index < sectors_of (length bytes)). absurd (apart index lt is))
    (λ (behind : sectors_of (length bytes) ≤ index).
    subst (λ (piece : List ℕ). take (length piece) sector ≡ piece) (sym (no_piece_behind bytes index behind)) refl)
    (cases_lt index (sectors_of (length bytes)))

-- so is a sector outside the ring of records in it
records_elsewhere : (ring : Ring) (start : RecordStart) (records : List RecordData) (at : ℕ) (sector : List ℕ) → 0 < ring.places
    → (IsInRing ring at → ⊥) → StandsAt ring start records at sector
records_elsewhere ring start [] at sector pos outside = tt
records_elsewhere ring start (r ∷ records) at sector pos outside = (
  λ part lt is. absurd (outside (omega (arith, is), omega (arith, is, mod_below (start.place + part) ring.places pos))),
  records_elsewhere ring (start_behind start r) records at sector pos outside,
)

in_ring_or_not : (ring : Ring) (at : ℕ) → IsInRing ring at ⊎ (IsInRing ring at → ⊥)
in_ring_or_not ring at = ⊎_elim
    (λ (low : at < ring.first). inr (λ inside. omega (arith, inside.0, low)))
    (λ (high : ring.first ≤ at). ⊎_elim
    (λ (inside : at < ring.first + ring.places). inl (high, inside))
    (λ (behind : ring.first + ring.places ≤ at). inr (λ inside. omega (arith, inside.1, behind)))
    (cases_lt at (ring.first + ring.places)))
    (cases_lt at ring.first)

-- An image that is another one in the ring holds the records that this one holds.
pub same_ring : (ring : Ring) (start : RecordStart) (records : List RecordData) (before image : Image) → 0 < ring.places
    → ((at : ℕ) → IsInRing ring at → image at ≡ before at) → HoldsOnly ring start records before → HoldsOnly ring start records image
same_ring ring start records before image pos same holds = record {
  records = record {
    lengths = holds.records.lengths;
    room = holds.records.room;
    numbers = holds.records.numbers;
    stand = λ at. ⊎_elim
        (λ (inside : IsInRing ring at). subst (λ (s : List ℕ). StandsAt ring start records at s) (sym (same at inside)) (holds.records.stand at))
        (λ (outside : IsInRing ring at → ⊥). records_elsewhere ring start records at (image at) pos outside)
        (in_ring_or_not ring at);
  };
  last = λ at version later inside known le head.
      holds.last at version later inside known le (subst (λ (s : List ℕ). IsHeadOf version later s) (same at inside) head);
}

-- ---- what is stored takes no sector of the next area

module _ (count n : ℕ) (stored : Stored) (before : Image) (holds : Holds count n stored before) where
  -- the journal and the area have what its root names
  pub live_can : CanStand n (root_of stored)
  live_can = ((holds.sectors (1 + stored.generation % 2)).live refl).can

  -- Any content of a sector of the next area is consistent with what is stored.
  pub other_area_free : (at : ℕ) (sector : List ℕ) → IsInArea n (suc stored.generation) at → HoldsAt count n stored at sector
  other_area_free at sector inside =
      let behind : 3 + journal_sectors n ≤ at = behind_ring n (suc stored.generation) at inside in
      let fits : sectors_of (length (snapshot stored.snapshot_map)) + sectors_of (length stored.archive) ≤ area_sectors n = live_can.area in
      record {
        format = λ is. absurd (omega (arith, behind, is));
        version = λ is. absurd (omega (arith, behind, is));
        live = λ is. absurd (omega (arith, behind, is));
        other = λ is. absurd (omega (arith, behind, is));
        snapshot_bytes = bytes_elsewhere (area_start n stored.generation) (snapshot stored.snapshot_map) at sector
            (λ index lt is. areas_apart n stored.generation at index inside (omega (arith, fits, lt)) is);
        archive_bytes = bytes_elsewhere (area_start n stored.generation + sectors_of (length (snapshot stored.snapshot_map))) stored.archive at sector
            (λ index lt is. areas_apart n stored.generation at (sectors_of (length (snapshot stored.snapshot_map)) + index) inside
            (omega (arith, fits, lt)) (omega (arith, is)));
      }

  -- So an image that is another only in that area holds the same.
  pub area_write_holds : (image : Image) → IsBeside n (suc stored.generation) before image → Holds count n stored image
  area_write_holds image beside = record {
    sectors = λ at. ⊎_elim
        (λ (inside : IsInArea n (suc stored.generation) at). other_area_free at (image at) inside)
        (λ (outside : IsInArea n (suc stored.generation) at → ⊥).
        subst (λ (s : List ℕ). HoldsAt count n stored at s) (sym (beside at outside)) (holds.sectors at))
        (in_area_or_not n (suc stored.generation) at);
    journal = same_ring (journal_ring n) _ _ before image (omega (arith, live_can.journal))
        (λ at inside. beside at (λ area. omega (arith, inside.1, behind_ring n (suc stored.generation) at area))) holds.journal;
    is_map = holds.is_map;
    are_edits = holds.are_edits;
    is_archive = holds.is_archive;
  }

-- ---- a write into that area

-- an image that is another but for one sector
abbrev with_sector : Image → ℕ → List ℕ → Image
with_sector image at sector index = if index == at then sector else image index

there : (image : Image) (at : ℕ) (sector : List ℕ) (index : ℕ) → index ≡ at → with_sector image at sector index ≡ sector
there image at sector index is = grind (arith, nat_tests)

elsewhere : (image : Image) (at : ℕ) (sector : List ℕ) (index : ℕ) → (index ≡ at → ⊥) → with_sector image at sector index ≡ image index
elsewhere image at sector index apart = grind (arith, nat_tests)

-- what a write may leave in another sector might have stood there
other_sector : (at : ℕ) (sector : List ℕ) (old new : History) (index : ℕ) (left : List ℕ) → FailedWrite at sector old new → (index ≡ at → ⊥)
    → MayHold new index left → MayHold old index left
other_sector at sector old new index left (inl same) apart may = subst (λ (h : History). MayHold h index left) same may
other_sector at sector old new index left (inr (inl is)) apart may =
    ⊎_elim (λ w. absurd (apart w.0)) (λ before. before) (subst (λ (h : History). MayHold h index left) is may)
other_sector at sector old new index left (inr (inr is)) apart may =
    ⊎_elim (λ w. absurd (apart w.0)) (λ before. before) (subst (λ (h : History). MayHold h index left) is may)

-- what it leaves, with what a read gave of its sector, might have been left before
pub was_left : (at : ℕ) (sector : List ℕ) (old new : History) (image : Image) → FailedWrite at sector old new → MayLeave new image
    → MayLeave old (with_sector image at (seen old at))
was_left at sector old new image did may index = ⊎_elim
    (λ (same : index ≡ at). subst (λ (s : List ℕ). MayHold old index s) (sym (there image at (seen old at) index same))
    (subst (λ (i : ℕ). MayHold old i (seen old at)) (sym same) (seen_may old at)))
    (λ (apart : index ≡ at → ⊥). subst (λ (s : List ℕ). MayHold old index s) (sym (elsewhere image at (seen old at) index apart))
    (other_sector at sector old new index (image index) did apart (may index)))
    (cases_eq index at)

module _ (count n : ℕ) (stored : Stored) (old new : History) (at : ℕ) (sector : List ℕ) (result : Result (Unit {0}) DiskFault)
    (writes : Writes result at sector old new) (inside : IsInArea n (suc stored.generation) at) (keeps : Keeps count n stored old) where
  -- A write into the next area, reported as done or as failed, leaves what is stored.
  pub write_area_keeps : Keeps count n stored new
  write_area_keeps image may =
      area_write_holds count n stored (with_sector image at (seen old at))
      (keeps (with_sector image at (seen old at)) (was_left at sector old new image (any_write result at sector old new writes) may)) image
      (λ index outside. sym (elsewhere image at (seen old at) index
      (λ is. outside (subst (λ (i : ℕ). IsInArea n (suc stored.generation) i) (sym is) inside))))

  pub write_area_leaves : LeavesOnly old new (Holds count n stored)
  write_area_leaves = write_leaves old old new at sector (Holds count n stored) (any_write result at sector old new writes)
      (started old (Holds count n stored) keeps) write_area_keeps
