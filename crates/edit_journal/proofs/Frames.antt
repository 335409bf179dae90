-- The sectors that aren't free are as they were.
use Rattle.std.proofs.Common.{◌≡◌, inl, inr, ⊎_elim, ℕ, ◌<◌, ◌≤◌, ◌+◌, ◌∙◌, List, length, sym, ap, subst, arith, Result}
use Rattle.std.proofs.lemmas.Bool.{cases_eq}
use Rattle.sector_disk.specs.Disk.{History, Image, seen, MayHold, Writes, Syncs}
use Rattle.sector_disk.specs.Disk.History.{wrote}
use Rattle.sector_disk.specs.Moments.{Within, LeavesOnly}
use Rattle.sector_disk.specs.declared.disk.DiskFault.{DiskFault}
use Rattle.sector_disk.proofs.History.{started, seen_may, seen_same, seen_other, fits_image, any_write, write_within, write_leaves, any_sync, sync_within, sync_leaves, weaken}
use Rattle.edit_journal.specs.Records.{RecordData, parts_of, record_sector, IsPart}
use Rattle.edit_journal.specs.Ring.{Ring, sector_at}
use Rattle.edit_journal.specs.Appends.{IsFree, AsBefore, OldOrBody, ReadsAsBefore, IsNew, ReadsBeside, BodiesStand}
use Rattle.edit_journal.specs.Recovers.{PartsStand}
use Rattle.edit_journal.proofs.Bodies.{write_reads, sync_reads}
use Rattle.edit_journal.proofs.Laws.{written_is_part}
use Rattle.edit_journal.proofs.Places.{places_apart}

-- a text that isn't empty has a part
pub some_parts : (bytes : ℕ) → 1 ≤ bytes → 1 ≤ parts_of bytes
some_parts bytes some = omega (arith, some)

-- a call that does nothing
pub frame_start : (start : History) (ring : Ring) (place used : ℕ) → LeavesOnly start start (AsBefore ring place used start)
frame_start start ring place used = started start (AsBefore ring place used start) (λ image may at taken. may at)

module _ (start : History) (ring : Ring) (place used number : ℕ) (r : RecordData) (some : 1 ≤ parts_of (length r.text))
    (room : used + parts_of (length r.text) ≤ ring.places) where
  abbrev Old : ℕ → List ℕ → Type 0
  Old at sector = (IsFree ring place used at → ⊥) → MayHold start at sector

  staged_old : (at : ℕ) (sector : List ℕ) → OldOrBody start ring place used number r at sector → Old at sector
  staged_old at sector (inl may) taken = may
  staged_old at sector (inr body) taken = absurd (taken (used + body.0, omega arith, omega (arith, room, body.2), body.3))

  module _ (staged : History) (within : Within staged (OldOrBody start ring place used number r))
      (leaves : LeavesOnly start staged (λ image. (at : ℕ) → OldOrBody start ring place used number r at (image at))) where
    pub frame_staged : LeavesOnly start staged (AsBefore ring place used start)
    frame_staged = weaken start staged _ (AsBefore ring place used start) leaves (λ image each at. staged_old at (image at) (each at))

    module _ (at : ℕ) (at_is : at ≡ sector_at ring (place + used)) (head : List ℕ) (reported : Result (Unit {0}) DiskFault) (written : History)
        (writes : Writes reported at head staged written) where
      free : IsFree ring place used at
      free = (used, omega arith, omega (arith, some, room), at_is)

      head_old : Within written Old
      head_old = write_within at head staged written Old (any_write reported at head staged written writes)
          (λ other left may. staged_old other left (within other left may)) (λ taken. absurd (taken free))

      pub frame_head : LeavesOnly start written (AsBefore ring place used start)
      frame_head = write_leaves start staged written at head (AsBefore ring place used start) (any_write reported at head staged written writes) frame_staged
          (fits_image written Old (AsBefore ring place used start) head_old (λ image fits. fits))

      -- a read gives of each other sector what it gave
      pub head_reads : ReadsBeside ring place used (parts_of (length r.text)) (seen start) (seen staged)
          → ReadsBeside ring place used (parts_of (length r.text)) (seen start) (seen written)
      head_reads was other apart =
          let same : place + used ≡ place + (used + 0) = omega arith in
          write_reads at head staged written other (any_write reported at head staged written writes)
          (λ e. apart (0, omega (arith, some), e ∙ at_is ∙ ap (sector_at ring) same)) ∙ was other apart

      module _ (result : Result (Unit {0}) DiskFault) (after : History) (syncs : Syncs result written after) where
        pub frame_end : LeavesOnly start after (AsBefore ring place used start)
        frame_end = sync_leaves start written after (AsBefore ring place used start) (any_sync result written after syncs) frame_head
            (fits_image after Old (AsBefore ring place used start) (sync_within written after Old (any_sync result written after syncs) head_old)
            (λ image fits. fits))

        pub end_reads : ReadsBeside ring place used (parts_of (length r.text)) (seen start) (seen staged)
            → ReadsBeside ring place used (parts_of (length r.text)) (seen start) (seen after)
        end_reads was other apart = sync_reads result written after other syncs ∙ head_reads was other apart

        -- and of each part it gives what was written
        pub end_stands : place < ring.places → BodiesStand staged ring place used number r → head ≡ record_sector r.version number r.text 0
            → written ≡ wrote at head staged → PartsStand ring place used number r (seen after)
        end_stands begins bodies is written_is part lt =
            let x : ℕ = sector_at ring (place + (used + part)) in
            let there : seen after x ≡ seen (wrote at head staged) x =
            sync_reads result written after x syncs ∙ ap (λ (h : History). seen h x) written_is in
            let sector_is : seen after x ≡ record_sector r.version number r.text part = there ∙ ⊎_elim
            (λ (first : part ≡ 0).
            let same : place + (used + part) ≡ place + used = omega (arith, first) in
            seen_same at head staged x (ap (sector_at ring) same ∙ sym at_is) ∙ is
            ∙ ap (λ (p : ℕ). record_sector r.version number r.text p) (sym first))
            (λ (later : part ≡ 0 → ⊥).
            seen_other at head staged x (λ e. places_apart ring (place + (used + part)) (place + used) (omega (arith, begins, room, lt))
            (omega (arith, begins, room, lt)) (omega (arith, room, lt)) (omega (arith, room, lt)) (λ same. later (omega (arith, same))) (e ∙ at_is))
            ∙ bodies part (seen staged x) (omega (arith, later)) lt (seen_may staged x))
            (cases_eq part 0) in
            subst (λ (s : List ℕ). IsPart r.version number r.text part s) (sym sector_is) (written_is_part r.version number r.text part)

-- the sectors of a record were free
pub beside_reads : (ring : Ring) (place used parts : ℕ) (old new : Image) → used + parts ≤ ring.places → ReadsBeside ring place used parts old new
    → ReadsAsBefore ring place used old new
beside_reads ring place used parts old new room was at taken =
    was at (λ (is : IsNew ring place used parts at). taken (used + is.0, omega arith, omega (arith, room, is.1), is.2))
