-- A disk is formatted in four parts, each of which outlives a crash before the next begins.
use Rattle.std.proofs.Common.{◌≡◌, ◌⊎◌, inl, inr, ⊎_elim, ℕ, ◌≤◌, ◌<◌, ◌+◌, List, slice_index, take, refl, sym, ◌∙◌, ap, subst, arith}
use Rattle.std.proofs.Common.{Result}
use Rattle.std.proofs.lemmas.Bool.{cases_eq}
use Rattle.sector_disk.specs.Disk.{History, Image, seen, MayHold, MayLeave, Writes, Syncs}
use Rattle.sector_disk.specs.Disk.History.{wrote, synced}
use Rattle.sector_disk.specs.Moments.{Within, LeavesOnly}
use Rattle.sector_disk.specs.declared.disk.DiskFault.{DiskFault}
use Rattle.sector_disk.proofs.History.{started, seen_may, seen_same, seen_other, any_write, write_within, write_leaves, any_sync, sync_within, sync_leaves}
use Rattle.sector_disk.proofs.History.{fits_image, weaken, then_leaves}
use Rattle.generations.specs.Areas.{journal_sectors}
use Rattle.generations.specs.Disks.{HasNoMark, IsFresh, first_root}
use Rattle.generations.specs.Written.{IsOldOr, IsOldOrEmpty}
use Rattle.generations.specs.declared.sizes.TheConstants.{JOURNAL_START}
use Rattle.generations.specs.Sectors.{disk_mark, format_sector, root_sector, zeros, HasMark}
use Rattle.generations.proofs.Live.{zero_apart}

-- ---- a write and a sync

module _ (start : History) (at : ℕ) (bytes : List ℕ) (result : Result (Unit {0}) DiskFault) (written : History)
    (writes : Writes result at bytes start written) where
  abbrev OldOr : Image → Type 0
  OldOr image = (index : ℕ) → IsOldOr start at bytes index (image index)

  wrote_within : Within written (IsOldOr start at bytes)
  wrote_within = write_within at bytes start written (IsOldOr start at bytes) (any_write result at bytes start written writes)
      (λ index left may. inl may) (inr (refl, refl))

  pub wrote_leaves : LeavesOnly start written OldOr
  wrote_leaves = write_leaves start start written at bytes OldOr (any_write result at bytes start written writes)
      (started start OldOr (λ image may index. inl (may index)))
      (fits_image written (IsOldOr start at bytes) OldOr wrote_within (λ image fits. fits))

  pub stood_leaves : (told : Result (Unit {0}) DiskFault) (new : History) → Syncs told written new → LeavesOnly start new OldOr
  stood_leaves told new syncs = sync_leaves start written new OldOr (any_sync told written new syncs) wrote_leaves
      (fits_image new (IsOldOr start at bytes) OldOr
      (sync_within written new (IsOldOr start at bytes) (any_sync told written new syncs) wrote_within) (λ image fits. fits))

-- ---- zeros in each sector

module _ (start : History) where
  -- each sector has what it might have had at the start, or zeros
  abbrev pub Emptied : Image → Type 0
  Emptied image = (index : ℕ) → IsOldOrEmpty start index (image index)

  pub emptied_start : LeavesOnly start start Emptied
  emptied_start = started start Emptied (λ image may index. inl (may index))

  module _ (at : ℕ) (pos : 0 < at) (old new : History) (was : Within old (IsOldOrEmpty start)) where
    -- what a sector has while one more is emptied
    empty_fits : (index : ℕ) (left : List ℕ) → IsOldOr old at zeros index left → IsOldOrEmpty start index left
    empty_fits index left fits = ⊎_elim (λ (may : MayHold old index left). was index left may)
        (λ (w : (index ≡ at) × (left ≡ zeros)). inr (subst (λ (k : ℕ). 0 < k) (sym w.0) pos, w.1))
        fits

    pub empty_within : Within new (IsOldOr old at zeros) → Within new (IsOldOrEmpty start)
    empty_within step index left may = empty_fits index left (step index left may)

    pub empty_leaves : LeavesOnly old new (λ image. (index : ℕ) → IsOldOr old at zeros index (image index))
        → LeavesOnly start old Emptied → LeavesOnly start new Emptied
    empty_leaves step so_far = then_leaves start old new Emptied so_far
        (weaken old new _ Emptied step (λ image fits index. empty_fits index (image index) (fits index)))

  module _ (result : Result (Unit {0}) DiskFault) (old new : History) (syncs : Syncs result old new) (was : Within old (IsOldOrEmpty start)) where
    pub cleared_within : Within new (IsOldOrEmpty start)
    cleared_within = sync_within old new (IsOldOrEmpty start) (any_sync result old new syncs) was

    pub cleared_leaves : LeavesOnly start old Emptied → LeavesOnly start new Emptied
    cleared_leaves so_far = sync_leaves start old new Emptied (any_sync result old new syncs) so_far
        (fits_image new (IsOldOrEmpty start) Emptied cleared_within (λ image fits. fits))

-- a read gives zeros below this sector, and once it is emptied there too
pub empty_seen : (at : ℕ) (old new : History) → seen new at ≡ zeros → ((k : ℕ) → (k ≡ at → ⊥) → seen new k ≡ seen old k)
    → ((k : ℕ) → 0 < k → k < at → seen old k ≡ zeros) → (k : ℕ) → 0 < k → k < at + 1 → seen new k ≡ zeros
empty_seen at old new here others so_far k pos lt = ⊎_elim
    (λ (same : k ≡ at). ap (λ (p : ℕ). seen new p) same ∙ here)
    (λ (apart : k ≡ at → ⊥). others k apart ∙ so_far k pos (omega arith))
    (cases_eq k at)

-- what a read gives after a sync is what a crash leaves
pub synced_holds : (old new : History) (end : ℕ) → new ≡ synced old → ((k : ℕ) → 0 < k → k < end → seen old k ≡ zeros)
    → (k : ℕ) → 0 < k → k < end → (left : List ℕ) → MayHold new k left → left ≡ zeros
synced_holds old new end is empty k pos lt left may =
    let holds : MayHold (synced old) k left = subst (λ (h : History). MayHold h k left) is may in holds ∙ empty k pos lt

-- ---- the four parts

marks_apart : HasMark zeros → ⊥
unfolding disk_mark
marks_apart is = zero_apart (ap (λ (s : List ℕ). slice_index s 0) is)

no_mark : (image : Image) → image 0 ≡ zeros → HasNoMark image
no_mark image empty mark = marks_apart (ap (λ (s : List ℕ). take 8 s) (sym empty) ∙ mark)

-- whatever a crash leaves, the sector has these bytes
abbrev pub Stands : History → ℕ → List ℕ → Type 0
Stands history at bytes = (left : List ℕ) → MayHold history at left → left ≡ bytes

-- what was written and synced is there
stands_now : (at : ℕ) (bytes : List ℕ) (old new : History) → new ≡ synced (wrote at bytes old) → Stands new at bytes
stands_now at bytes old new is left may =
    let holds : MayHold (synced (wrote at bytes old)) at left = subst (λ (h : History). MayHold h at left) is may in
    holds ∙ seen_same at bytes old at refl

-- and what was in another sector is still there
stands_still : (at : ℕ) (bytes : List ℕ) (old new : History) → new ≡ synced (wrote at bytes old)
    → (index : ℕ) (there : List ℕ) → (index ≡ at → ⊥) → Stands old index there → Stands new index there
stands_still at bytes old new is index there apart stood left may =
    let holds : MayHold (synced (wrote at bytes old)) index left = subst (λ (h : History). MayHold h index left) is may in
    holds ∙ seen_other at bytes old index apart ∙ stood (seen old index) (seen_may old index)

module _ (version n : ℕ) (start : History) where
  -- an image of a format: one of before, or without the mark, or fresh
  abbrev pub Formats : Image → Type 0
  Formats image = MayLeave start image ⊎ HasNoMark image ⊎ IsFresh version n image

  -- the mark is overwritten
  module _ (one : History) (leaves : LeavesOnly start one (λ image. (index : ℕ) → IsOldOr start 0 zeros index (image index))) where
    first_image : (image : Image) → ((index : ℕ) → IsOldOr start 0 zeros index (image index)) → Formats image
    first_image image fits = ⊎_elim
        (λ (may : MayHold start 0 (image 0)). inl (λ index. ⊎_elim
        (λ (m : MayHold start index (image index)). m)
        (λ (w : (index ≡ 0) × (image index ≡ zeros)). subst (λ (p : ℕ). MayHold start p (image p)) (sym w.0) may)
        (fits index)))
        (λ (w : (0 ≡ 0) × (image 0 ≡ zeros)). inr (inl (no_mark image w.1)))
        (fits 0)

    pub first_leaves : LeavesOnly start one Formats
    first_leaves = weaken start one _ Formats leaves first_image

    module _ (one_is : one ≡ synced (wrote 0 zeros start)) where
      one_stands : Stands one 0 zeros
      one_stands = stands_now 0 zeros start one one_is

      -- the roots and the journal are emptied
      module _ (two : History) (cleared : LeavesOnly one two (λ image. (index : ℕ) → IsOldOrEmpty one index (image index))) where
        second_image : (image : Image) → ((index : ℕ) → IsOldOrEmpty one index (image index)) → Formats image
        second_image image fits = ⊎_elim
            (λ (may : MayHold one 0 (image 0)). inr (inl (no_mark image (one_stands (image 0) may))))
            (λ (w : (0 < 0) × (image 0 ≡ zeros)). absurd (omega (arith, w.0)))
            (fits 0)

        pub second_leaves : LeavesOnly start two Formats
        second_leaves = then_leaves start one two Formats first_leaves (weaken one two _ Formats cleared second_image)

        module _ (within : Within two (IsOldOrEmpty one))
            (empty : (at : ℕ) → 0 < at → at < JOURNAL_START + journal_sectors n → Stands two at zeros) where
          two_stands : Stands two 0 zeros
          two_stands left may = ⊎_elim
              (λ (was : MayHold one 0 left). one_stands left was)
              (λ (w : (0 < 0) × (left ≡ zeros)). absurd (omega (arith, w.0)))
              (within 0 left may)

          -- the first root is written
          module _ (root : List ℕ) (root_is : root ≡ root_sector first_root) (three : History)
              (rooted : LeavesOnly two three (λ image. (index : ℕ) → IsOldOr two 1 root index (image index))) where
            third_image : (image : Image) → ((index : ℕ) → IsOldOr two 1 root index (image index)) → Formats image
            third_image image fits = ⊎_elim
                (λ (may : MayHold two 0 (image 0)). inr (inl (no_mark image (two_stands (image 0) may))))
                (λ (w : (0 ≡ 1) × (image 0 ≡ root)). absurd (omega (arith, w.0)))
                (fits 0)

            pub third_leaves : LeavesOnly start three Formats
            third_leaves = then_leaves start two three Formats second_leaves (weaken two three _ Formats rooted third_image)

            module _ (three_is : three ≡ synced (wrote 1 root two)) (format : List ℕ) (format_is : format ≡ format_sector version n) where
              three_stands : Stands three 0 zeros
              three_stands = stands_still 1 root two three three_is 0 zeros (λ e. omega (arith, e)) two_stands

              three_root : Stands three 1 root
              three_root = stands_now 1 root two three three_is

              three_empty : (at : ℕ) → 2 ≤ at → at < JOURNAL_START + journal_sectors n → Stands three at zeros
              three_empty at le lt = stands_still 1 root two three three_is at zeros (λ e. omega (arith, e)) (empty at (omega arith) lt)

              -- with the sector of the format the image is fresh
              made_fresh : (image : Image) → ((index : ℕ) → IsOldOr three 0 format index (image index)) → image 0 ≡ format → IsFresh version n image
              made_fresh image fits is = record {
                format = is ∙ format_is;
                root = ⊎_elim (λ (may : MayHold three 1 (image 1)). three_root (image 1) may ∙ root_is)
                    (λ (w : (1 ≡ 0) × (image 1 ≡ format)). absurd (omega (arith, w.0))) (fits 1);
                empty = λ at le lt. ⊎_elim (λ (may : MayHold three at (image at)). three_empty at le lt (image at) may)
                    (λ (w : (at ≡ 0) × (image at ≡ format)). absurd (omega (arith, w.0))) (fits at);
              }

              -- the sector of the format is written
              module _ (four : History) (formatted : LeavesOnly three four (λ image. (index : ℕ) → IsOldOr three 0 format index (image index))) where
                fourth_image : (image : Image) → ((index : ℕ) → IsOldOr three 0 format index (image index)) → Formats image
                fourth_image image fits = ⊎_elim
                    (λ (may : MayHold three 0 (image 0)). inr (inl (no_mark image (three_stands (image 0) may))))
                    (λ (w : (0 ≡ 0) × (image 0 ≡ format)). inr (inr (made_fresh image fits w.1)))
                    (fits 0)

                fourth_leaves : LeavesOnly start four Formats
                fourth_leaves = then_leaves start three four Formats third_leaves (weaken three four _ Formats formatted fourth_image)

                all_fresh : four ≡ synced (wrote 0 format three) → (image : Image) → MayLeave four image → IsFresh version n image
                all_fresh four_is image may = record {
                  format = stands_now 0 format three four four_is (image 0) (may 0) ∙ format_is;
                  root = stands_still 0 format three four four_is 1 root (λ e. omega (arith, e)) three_root (image 1) (may 1) ∙ root_is;
                  empty = λ at le lt. stands_still 0 format three four four_is at zeros (λ e. omega (arith, e, le))
                      (three_empty at le lt) (image at) (may at);
                }

                -- what a crash may leave at any moment, and what it leaves once the format is written
                pub fourth : LeavesOnly start four Formats
                    × (four ≡ synced (wrote 0 format three) → (image : Image) → MayLeave four image → IsFresh version n image)
                fourth = (fourth_leaves, all_fresh)
