-- A record counts once its head is written, and its bodies are written before that.
use Rattle.std.proofs.Common.{◌≡◌, ◌⊎◌, inl, inr, ⊎_elim, ℕ, suc, ◌≤◌, ◌<◌, ◌+◌, ◌^◌, List, [], ◌∷◌, ◌++◌, length, length-append}
use Rattle.std.proofs.Common.{sym, ◌∙◌, ap, subst, arith, Result, Ok, Err, OnOk}
use Rattle.std.proofs.lemmas.Bool.{cases_eq}
use Rattle.sector_disk.specs.Disk.{History, Image, seen, MayHold, Writes, Syncs}
use Rattle.sector_disk.specs.Disk.History.{wrote, synced}
use Rattle.sector_disk.specs.Moments.{Within, LeavesOnly}
use Rattle.sector_disk.specs.declared.disk.DiskFault.{DiskFault}
use Rattle.sector_disk.proofs.History.{started, each_sector, seen_may, seen_same, fits_image, any_write, write_within, write_leaves}
use Rattle.sector_disk.proofs.History.{any_sync, sync_within, sync_leaves, weaken}
use Rattle.edit_journal.specs.Records.{RecordData, IsRecordVersion, IsRecordLength, parts_of, record_sector, IsPart, IsHeadOf}
use Rattle.edit_journal.specs.Ring.{Ring, RecordStart, sector_at, IsInRing, start_behind, AreRecords, places_of, StandsAt, HoldsOnly}
use Rattle.edit_journal.specs.Appends.{start_of, Keeps, HoldsOneMore, OldOrBody, BodiesStand}
use Rattle.edit_journal.proofs.Laws.{written_is_part, first_is_head, body_no_head, one_number}
use Rattle.edit_journal.proofs.Places.{places_apart}

-- nothing is asked of what lies after the records
past_end : (ring : Ring) (start : RecordStart) (rs : List RecordData) (at : ℕ) (sector : List ℕ) (place : ℕ)
    → start.place + places_of rs ≤ place → place < start.place + ring.places → place < ring.places + ring.places
    → at ≡ sector_at ring place → StandsAt ring start rs at sector
past_end ring start [] at sector place le near small is = tt
past_end ring start (r ∷ rs) at sector place le near small is = (
  λ part lt here. absurd (places_apart ring (start.place + part) place (omega (arith, lt, le, small)) small (omega (arith, lt, le)) (omega (arith, near))
      (λ same. omega (arith, same, lt, le)) (sym here ∙ is)),
  past_end ring (start_behind start r) rs at sector place (omega (arith, le)) (omega (arith, near)) small is,
)

-- a part of one number is one of the same number
renumbered : (n m : ℕ) (r : RecordData) (part : ℕ) (sector : List ℕ) → n ≡ m → IsPart r.version n r.text part sector
    → IsPart r.version m r.text part sector
renumbered n m r part sector same is = subst (λ (k : ℕ). IsPart r.version k r.text part sector) same is

pub stands_push : (ring : Ring) (start : RecordStart) (rs : List RecordData) (r : RecordData) (at : ℕ) (sector : List ℕ)
    → StandsAt ring start rs at sector
    → ((part : ℕ) → part < parts_of (length r.text) → at ≡ sector_at ring (start.place + places_of rs + part)
    → IsPart r.version (start.number + length rs) r.text part sector)
    → StandsAt ring start (rs ++ r ∷ []) at sector
stands_push ring start [] r at sector stands new = (
  λ part lt is.
      let place : start.place + part ≡ start.place + 0 + part = omega arith in
      let number : start.number + 0 ≡ start.number = omega arith in
      renumbered (start.number + 0) start.number r part sector number (new part lt (is ∙ ap (sector_at ring) place)),
  tt,
)
stands_push ring start (first ∷ rs) r at sector stands new = (
  stands.0,
  stands_push ring (start_behind start first) rs r at sector stands.1 (λ part lt is.
      let place : start.place + parts_of (length first.text) + places_of rs + part
      ≡ start.place + (parts_of (length first.text) + places_of rs) + part = omega arith in
      let number : start.number + suc (length rs) ≡ suc start.number + length rs = omega arith in
      renumbered (start.number + suc (length rs)) (suc start.number + length rs) r part sector number (new part lt (is ∙ ap (sector_at ring) place))),
)

pub places_push : (rs : List RecordData) (r : RecordData) → places_of (rs ++ r ∷ []) ≡ places_of rs + parts_of (length r.text)
places_push [] r = omega arith
places_push (first ∷ rs) r = omega (arith, places_push rs r)

pub records_push : (rs : List RecordData) (r : RecordData) → AreRecords rs → IsRecordLength r.version (length r.text) → AreRecords (rs ++ r ∷ [])
records_push [] r are is = (is, tt)
records_push (first ∷ rs) r are is = (are.0, records_push rs r are.1 is)

-- what follows from a sync that is done
pub on_ok : {P : Type 0} (result : Result (Unit {0}) DiskFault) (old new : History) → Syncs result old new → (new ≡ synced old → P) → OnOk result P
on_ok (Ok done) old new syncs then = then syncs
on_ok (Err fault) old new syncs then = tt

-- what the journal says of one sector
record Holds (ring : Ring) (start : RecordStart) (rs : List RecordData) (at : ℕ) (sector : List ℕ) : Type 0 where
  stands : StandsAt ring start rs at sector
  last : IsInRing ring at → (version later : ℕ) → IsRecordVersion version → start.number + length rs ≤ later → IsHeadOf version later sector → ⊥

module _ (start : History) (ring : Ring) (place edits used last : ℕ) (rs : List RecordData) (r : RecordData) (begins : place < ring.places)
    (room : used + parts_of (length r.text) ≤ ring.places) (fits : last + 1 < 2 ^ 64) (edit : IsRecordLength r.version (length r.text))
    (before : Keeps ring place edits used last rs start) where
  here : Within start (Holds ring (start_of place edits) rs)
  here = each_sector start (Holds ring (start_of place edits) rs) (λ image may at. record {
    stands = (before.keeps image may).records.stand at;
    last = λ inside version later is le head. (before.keeps image may).last at version later inside is le head;
  })

  -- an old sector or a body changes no record
  staged_at : (at : ℕ) (sector : List ℕ) → OldOrBody start ring place used (last + 1) r at sector → Holds ring (start_of place edits) rs at sector
  staged_at at sector (inl may) = here at sector may
  staged_at at sector (inr body) = record {
    stands = past_end ring (start_of place edits) rs at sector (place + (used + body.0)) (omega (arith, before.uses))
        (omega (arith, room, body.2)) (omega (arith, room, body.2, begins)) body.3;
    last = λ inside version later is le head. body_no_head r.version (last + 1) r.text body.0 (record_sector r.version (last + 1) r.text body.0)
        version later body.1 (written_is_part r.version (last + 1) r.text body.0)
        (subst (λ (s : List ℕ). IsHeadOf version later s) body.4 head);
  }

  -- the sectors hold the records together
  old_image : (image : Image) → ((at : ℕ) → Holds ring (start_of place edits) rs at (image at))
      → HoldsOnly ring (start_of place edits) rs image
  old_image image each =
      let found = before.keeps (seen start) (λ at. seen_may start at) in
      record {
        records = record {
          lengths = found.records.lengths;
          room = found.records.room;
          numbers = found.records.numbers;
          stand = λ at. (each at).stands;
        };
        last = λ at version later inside is le head. (each at).last inside version later is le head;
      }

  -- the images of a call
  abbrev pub OneMore : Image → Type 0
  OneMore image = HoldsOneMore ring (start_of place edits) rs r image

  pub stage_leaves : (staged : History) → LeavesOnly start staged (λ image. (at : ℕ) → OldOrBody start ring place used (last + 1) r at (image at))
      → LeavesOnly start staged OneMore
  stage_leaves staged leaves = weaken start staged _ OneMore leaves (λ image each. inl (old_image image (λ at. staged_at at (image at) (each at))))

  module _ (staged : History) (within : Within staged (OldOrBody start ring place used (last + 1) r))
      (bodies : BodiesStand staged ring place used (last + 1) r) where
    -- what might have stood there once the bodies were synced, or the head
    abbrev StagedOrHead : ℕ → List ℕ → Type 0
    StagedOrHead at sector = MayHold staged at sector ⊎ ((at ≡ sector_at ring (place + used)) × (sector ≡ record_sector r.version (last + 1) r.text 0))

    head_is : IsHeadOf r.version (last + 1) (record_sector r.version (last + 1) r.text 0)
    head_is = first_is_head r.version (last + 1) r.text (record_sector r.version (last + 1) r.text 0) fits
        (written_is_part r.version (last + 1) r.text 0)

    -- the sector of each part has it once the head is written
    new_part : (image : Image) → ((at : ℕ) → StagedOrHead at (image at))
        → image (sector_at ring (place + used)) ≡ record_sector r.version (last + 1) r.text 0
        → (at part : ℕ) → part < parts_of (length r.text) → at ≡ sector_at ring (place + (used + part))
        → image at ≡ record_sector r.version (last + 1) r.text part
    new_part image each head at part lt is = ⊎_elim
        (λ (first : part ≡ 0).
        let same : place + (used + part) ≡ place + used = omega (arith, first) in
        ap image (is ∙ ap (sector_at ring) same) ∙ head ∙ ap (λ (p : ℕ). record_sector r.version (last + 1) r.text p) (sym first))
        (λ (later : part ≡ 0 → ⊥). ⊎_elim
        (λ (may : MayHold staged at (image at)). bodies part (image at) (omega (arith, later)) lt (subst (λ (p : ℕ). MayHold staged p (image at)) is may))
        (λ (w : (at ≡ sector_at ring (place + used)) × (image at ≡ record_sector r.version (last + 1) r.text 0)).
        absurd (places_apart ring (place + used) (place + (used + part)) (omega (arith, begins, room, lt)) (omega (arith, begins, room, lt))
        (omega (arith, room, lt)) (omega (arith, room, lt)) (λ same. later (omega (arith, same))) (sym w.0 ∙ is)))
        (each at))
        (cases_eq part 0)

    old_stands : (at : ℕ) (sector : List ℕ) → StagedOrHead at sector → StandsAt ring (start_of place edits) rs at sector
    old_stands at sector (inl may) = (staged_at at sector (within at sector may)).stands
    old_stands at sector (inr w) = past_end ring (start_of place edits) rs at sector (place + used) (omega (arith, before.uses))
        (omega (arith, room, edit.1)) (omega (arith, room, begins)) w.0

    no_later : (at : ℕ) (sector : List ℕ) → StagedOrHead at sector → IsInRing ring at → (version later : ℕ) → IsRecordVersion version
        → last + 2 ≤ later → IsHeadOf version later sector → ⊥
    no_later at sector (inl may) inside version later is le head =
        (staged_at at sector (within at sector may)).last inside version later is (omega (arith, le, before.counts)) head
    no_later at sector (inr w) inside version later is le head = omega (
      arith,
      le,
      one_number r.version version (last + 1) later (record_sector r.version (last + 1) r.text 0) head_is
          (subst (λ (s : List ℕ). IsHeadOf version later s) w.1 head),
    )

    with_head : (image : Image) → ((at : ℕ) → StagedOrHead at (image at))
        → image (sector_at ring (place + used)) ≡ record_sector r.version (last + 1) r.text 0
        → HoldsOnly ring (start_of place edits) (rs ++ r ∷ []) image
    with_head image each head =
        let found = before.keeps (seen start) (λ at. seen_may start at) in
        let number : last + 1 ≡ suc edits + length rs = omega (arith, before.counts) in
        record {
          records = record {
            lengths = records_push rs r found.records.lengths edit;
            room = omega (arith, before.uses, places_push rs r, room);
            numbers = omega (arith, before.counts, length-append rs (r ∷ []), fits);
            stand = λ at. stands_push ring (start_of place edits) rs r at (image at) (old_stands at (image at) (each at)) (λ part lt is.
                let same : place + places_of rs + part ≡ place + (used + part) = omega (arith, before.uses) in
                renumbered (last + 1) (suc edits + length rs) r part (image at) number
                (subst (λ (s : List ℕ). IsPart r.version (last + 1) r.text part s)
                (sym (new_part image each head at part lt (is ∙ ap (sector_at ring) same)))
                (written_is_part r.version (last + 1) r.text part)));
          };
          last = λ at version later inside is le head_is. no_later at (image at) (each at) inside version later is
              (omega (arith, le, before.counts, length-append rs (r ∷ []))) head_is;
        }

    -- the one sector of the head decides
    head_decides : (image : Image) → ((at : ℕ) → StagedOrHead at (image at)) → OneMore image
    head_decides image each = ⊎_elim
        (λ (may : MayHold staged (sector_at ring (place + used)) (image (sector_at ring (place + used)))). inl (old_image image (λ at. ⊎_elim
        (λ (m : MayHold staged at (image at)). staged_at at (image at) (within at (image at) m))
        (λ (w : (at ≡ sector_at ring (place + used)) × (image at ≡ record_sector r.version (last + 1) r.text 0)).
        subst (λ (p : ℕ). Holds ring (start_of place edits) rs p (image p)) (sym w.0)
        (staged_at (sector_at ring (place + used)) (image (sector_at ring (place + used)))
        (within (sector_at ring (place + used)) (image (sector_at ring (place + used))) may)))
        (each at))))
        (λ (w : (sector_at ring (place + used) ≡ sector_at ring (place + used))
        × (image (sector_at ring (place + used)) ≡ record_sector r.version (last + 1) r.text 0)). inr (with_head image each w.1))
        (each (sector_at ring (place + used)))

    -- the head is written, reported as done or as failed
    module _ (at : ℕ) (at_is : at ≡ sector_at ring (place + used)) (head : List ℕ) (is : head ≡ record_sector r.version (last + 1) r.text 0)
        (reported : Result (Unit {0}) DiskFault) (written : History) (writes : Writes reported at head staged written)
        (leaves : LeavesOnly start staged (λ image. (at : ℕ) → OldOrBody start ring place used (last + 1) r at (image at))) where
      head_within : Within written StagedOrHead
      head_within = write_within at head staged written StagedOrHead (any_write reported at head staged written writes) (λ at left may. inl may)
          (inr (at_is, is))

      pub head_leaves : LeavesOnly start written OneMore
      head_leaves = write_leaves start staged written at head OneMore (any_write reported at head staged written writes) (stage_leaves staged leaves)
          (fits_image written StagedOrHead OneMore head_within head_decides)

      -- the head is synced, reported as done or as failed
      module _ (result : Result (Unit {0}) DiskFault) (after : History) (syncs : Syncs result written after) where
        end_within : Within after StagedOrHead
        end_within = sync_within written after StagedOrHead (any_sync result written after syncs) head_within

        pub end_leaves : LeavesOnly start after OneMore
        end_leaves = sync_leaves start written after OneMore (any_sync result written after syncs) head_leaves
            (fits_image after StagedOrHead OneMore end_within head_decides)

        -- it is done: each image has the head
        settled_keeps : written ≡ wrote at head staged → after ≡ synced written
            → Keeps ring place edits (used + parts_of (length r.text)) (last + 1) (rs ++ r ∷ []) after
        settled_keeps written_is after_is = record {
          keeps = λ image may. with_head image (λ other. end_within other (image other) (may other))
              (at_place (image (sector_at ring (place + used))) (may (sector_at ring (place + used))) ∙ is);
          uses = omega (arith, before.uses, places_push rs r);
          counts = omega (arith, before.counts, length-append rs (r ∷ []));
        }
          where
            at_place : (sector : List ℕ) → MayHold after (sector_at ring (place + used)) sector → sector ≡ head
            at_place sector may = subst (λ (h : History). MayHold h (sector_at ring (place + used)) sector) after_is may
                ∙ ap (λ (h : History). seen h (sector_at ring (place + used))) written_is ∙ seen_same at head staged (sector_at ring (place + used)) (sym at_is)

        pub end_keeps : written ≡ wrote at head staged
            → OnOk result (Keeps ring place edits (used + parts_of (length r.text)) (last + 1) (rs ++ r ∷ []) after)
        end_keeps written_is = on_ok result written after syncs (settled_keeps written_is)

-- a call that does nothing
pub same_leaves : (start : History) (ring : Ring) (place edits used last : ℕ) (rs : List RecordData) (r : RecordData)
    → Keeps ring place edits used last rs start → LeavesOnly start start (HoldsOneMore ring (start_of place edits) rs r)
same_leaves start ring place edits used last rs r before =
    started start (HoldsOneMore ring (start_of place edits) rs r) (λ image may. inl (before.keeps image may))
