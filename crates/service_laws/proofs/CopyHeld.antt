-- A copy of a disk holds what the disk held.
use Rattle.std.proofs.Common.{◌≡◌, inl, inr, ⊎_elim, ℕ, ◌≤◌, ◌<◌, ◌+◌, ◌%◌, List, All, length, map, take, refl, sym, ◌∙◌, ap, subst, arith}
use Rattle.std.proofs.lemmas.Bool.{cases_lt}
use Rattle.std.proofs.lemmas.List.{length-map}
use Rattle.std.proofs.lemmas.List.Elements.{All-map, All-weaker}
use Rattle.sector_disk.specs.Disk.{History, Image, MayLeave}
use Rattle.sector_bytes.specs.Bytes.{sector_piece}
use Rattle.generations.specs.Areas.{area_start, sectors_of}
use Rattle.generations.specs.Sectors.{IsFormat, IsRootOf, zeros, version_from}
use Rattle.generations.specs.declared.root.Root.{Root}
use Rattle.generations.proofs.Laws.{one_live}
use Rattle.edit_journal.specs.Appends.{start_of}
use Rattle.edit_journal.specs.Records.{RecordData, AreUpTo}
use Rattle.edit_journal.specs.Ring.{HoldsOnly, places_of}
use Rattle.edit_journal.proofs.Recovers.{held_is_journal, one_journal}
use Rattle.edit_text.specs.Recorded.{RecordedEdit}
use Rattle.feature_store.specs.Store.{snapshot}
use Rattle.tile_service.specs.Stored.{Stored, Holds, HoldsAt, HasBytes, HasEarlierRoot, CanRecord}
use Rattle.tile_service.specs.Stored.{root_of, record_for, stored_records, journal_ring, journal_start}
use Rattle.tile_service.proofs.Disk.OneState.{version_known, version_most}
use Rattle.tile_service.proofs.Disk.Roots.{lives}
use Rattle.tile_service.proofs.Publications.AfterWrites.{no_piece_behind}
use Rattle.disk_copy.specs.Copies.{IsNamed, IsCopyOf, IsCopied, IsJournalOf, ring_in}
use Rattle.disk_copy.specs.Shared.{IsOfOneMoment}
use Rattle.service_laws.specs.CopyHeld.{HoldsCopy, HoldsOneOf}

-- bytes whose sectors were copied are there
bytes_copied : (first : ℕ) (bytes : List ℕ) (at : ℕ) (source sector : List ℕ)
    → ((index : ℕ) → index < sectors_of (length bytes) → at ≡ first + index → sector ≡ source)
    → HasBytes first bytes at source → HasBytes first bytes at sector
bytes_copied first bytes at source sector same has index is = ⊎_elim
    (λ (lt : index < sectors_of (length bytes)).
    subst (λ (s : List ℕ). take (length (sector_piece bytes index)) s ≡ sector_piece bytes index) (sym (same index lt is)) (has index is))
    (λ (behind : sectors_of (length bytes) ≤ index).
    subst (λ (piece : List ℕ). take (length piece) sector ≡ piece) (sym (no_piece_behind bytes index behind)) refl)
    (cases_lt index (sectors_of (length bytes)))

module _ (sectors size n : ℕ) (fits : n ≤ size) (stored : Stored) (source image : Image) (holds : Holds sectors n stored source) where
  -- what the root of the state names
  abbrev IsNamedHere : ℕ → Type 0
  IsNamedHere at = IsNamed n (root_of stored) (places_of (stored_records stored)) at

  module _ (copy : IsCopyOf n (root_of stored) (places_of (stored_records stored)) source image) where
    copied : (at : ℕ) → IsNamedHere at → image at ≡ source at
    copied at named = ⊎_elim
        (λ (there : IsNamedHere at × (image at ≡ source at)). there.1)
        (λ (other : (IsNamedHere at → ⊥) × (image at ≡ zeros)). absurd (other.0 named))
        (copy at)

    -- The other root's sector is the source's, or has zeros.
    earlier : (at : ℕ) → HasEarlierRoot n stored.generation (source at) → HasEarlierRoot n stored.generation (image at)
    earlier at has = ⊎_elim
        (λ (there : IsNamedHere at × (image at ≡ source at)). subst (λ (s : List ℕ). HasEarlierRoot n stored.generation s) (sym there.1) has)
        (λ (other : (IsNamedHere at → ⊥) × (image at ≡ zeros)). inl other.1)
        (copy at)

    format_there : IsFormat sectors (source 0) n → IsFormat size (image 0) n
    format_there is = subst (λ (s : List ℕ). IsFormat size s n) (sym (copied 0 (inl (inl (inl (omega arith, omega arith))))))
        (record { stands = is.stands; size = is.size; within = fits })

    each : (at : ℕ) → HoldsAt size n stored at (image at)
    each at =
        let was : HoldsAt sectors n stored at (source at) = holds.sectors at in
        let texts : ℕ = sectors_of (length (snapshot stored.snapshot_map)) in
        let first : ℕ = area_start n stored.generation in
        record {
          format = λ is. subst (λ (a : ℕ). IsFormat size (image a) n) (sym is) (format_there ((holds.sectors 0).format refl));
          version = λ is. ap version_from (copied at (inl (inl (inl (omega arith, omega (arith, is)))))) ∙ was.version is;
          live = λ is. subst (λ (s : List ℕ). IsRootOf n (stored.generation % 2) s (root_of stored))
              (sym (copied at (inl (inl (inr (omega (arith, is), omega (arith, is))))))) (was.live is);
          other = λ is. earlier at (was.other is);
          snapshot_bytes = bytes_copied first (snapshot stored.snapshot_map) at (source at) (image at)
              (λ index lt is. copied at (inl (inr (omega (arith, is), omega (arith, is, lt))))) was.snapshot_bytes;
          archive_bytes = bytes_copied (first + texts) stored.archive at (source at) (image at)
              (λ index lt is. copied at (inl (inr (omega (arith, is), omega (arith, is, lt))))) was.archive_bytes;
        }

    -- The state is in a copy that has the state's records and no others.
    held : HoldsOnly (journal_ring n) (journal_start stored) (stored_records stored) image → Holds size n stored image
    held journal = record {
      sectors = each;
      journal = journal;
      is_map = holds.is_map;
      are_edits = holds.are_edits;
      is_archive = holds.is_archive;
    }

are_up_to : (version : ℕ) (edits : List RecordedEdit) → All (CanRecord version) edits → AreUpTo version (map record_for edits)
are_up_to version edits are = All-map (λ (r : RecordData). r.version ≤ version) record_for edits
    (All-weaker (CanRecord version) (λ (e : RecordedEdit). e.version ≤ version) (λ e can. can.version_is) edits are)

module _ (sectors size n last : ℕ) (stored : Stored) (source : Image) (history : History) (fits : n ≤ size)
    (holds : Holds sectors n stored source) (copy : IsCopied sectors source last history) where
  same : (copy.n ≡ n) × (copy.root ≡ root_of stored)
  same = one_live sectors source copy.n n copy.root (root_of stored) copy.live (lives sectors source n stored holds)

  -- the records that were copied are those of the state
  journal_there : IsJournalOf n stored.version (root_of stored) (stored_records stored) source
  journal_there = held_is_journal (journal_ring n) source stored.version (journal_start stored) (stored_records stored)
      (version_most stored.version (version_known sectors n stored source holds)) (are_up_to stored.version stored.since holds.are_edits) holds.journal

  journal_copied : IsJournalOf n stored.version (root_of stored) copy.records.0 source
  journal_copied = subst (λ (v : ℕ). IsJournalOf n v (root_of stored) copy.records.0 source) ((holds.sectors 0).version refl)
      (subst (λ (m : ℕ). IsJournalOf m (version_from (source 0)) (root_of stored) copy.records.0 source) same.0
      (subst (λ (r : Root). IsJournalOf copy.n (version_from (source 0)) r copy.records.0 source) same.1 copy.records.1))

  records_are : copy.records.0 ≡ stored_records stored
  records_are = one_journal (journal_ring n) source stored.version (journal_start stored) copy.records.0 (stored_records stored)
      journal_copied journal_there

  used_is : copy.used ≡ places_of (stored_records stored)
  used_is = copy.records.2 ∙ ap places_of records_are

  copy_there : (image : Image) → MayLeave history image → IsCopyOf n (root_of stored) (places_of (stored_records stored)) source image
  copy_there image may = subst (λ (used : ℕ). IsCopyOf n (root_of stored) used source image) used_is
      (subst (λ (m : ℕ). IsCopyOf m (root_of stored) copy.used source image) same.0
      (subst (λ (r : Root). IsCopyOf copy.n r copy.used source image) same.1 (copy.copies image may)))

  only_there : (image : Image) → MayLeave history image → HoldsOnly (journal_ring n) (journal_start stored) (stored_records stored) image
  only_there image may = subst (λ (rs : List RecordData). HoldsOnly (journal_ring n) (journal_start stored) rs image) records_are
      (subst (λ (m : ℕ). HoldsOnly (ring_in m) (journal_start stored) copy.records.0 image) same.0
      (subst (λ (r : Root). HoldsOnly (ring_in copy.n) (start_of r.journal_at r.edits) copy.records.0 image) same.1 (copy.opens image may).1))

  -- A copy that was made of a disk that holds a state holds that state.
  pub copy_holds : HoldsCopy size n stored last history
  copy_holds = record {
    keeps = λ image may. held sectors size n fits stored source image holds (copy_there image may) (only_there image may);
    last_is = omega (arith, copy.records.3, ap (λ (r : Root). r.edits) same.1, ap length records_are, length-map stored.since record_for);
  }

-- the same of one of many moments
pub one_holds : (sectors size n from to last : ℕ) (states : ℕ → Stored) (images : ℕ → Image) (copy : History) → n ≤ size
    → ((moment : ℕ) → from ≤ moment → moment ≤ to → Holds sectors n (states moment) (images moment)) → IsOfOneMoment sectors images from to last copy
    → HoldsOneOf size n states from to last copy
one_holds sectors size n from to last states images copy fits holds is =
    (is.0, is.1, is.2, copy_holds sectors size n last (states is.0) (images is.0) copy fits (holds is.0 is.1 is.2) is.3)
