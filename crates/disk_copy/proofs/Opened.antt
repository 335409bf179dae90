-- What a copy is for whoever opens it.
use Rattle.std.proofs.Common.{◌≡◌, inl, inr, ⊎_elim, ℕ, suc, ◌≤◌, ◌<◌, ◌+◌, ◌-◌, ◌^◌, ◌%◌, List, [], ◌∷◌, length, slice_index}
use Rattle.std.proofs.Common.{refl, sym, ◌∙◌, ap, subst, arith}
use Rattle.std.proofs.lemmas.Bool.{cases_eq, cases_lt}
use Rattle.sector_disk.specs.Disk.{History, Image, MayHold, MayLeave, seen}
use Rattle.sector_disk.specs.Disk.History.{synced}
use Rattle.generations.specs.Disks.{LiveRoot}
use Rattle.generations.specs.Sectors.{IsFormat, IsRootOf, IsRootSector, root_mark, root_sector, zeros, version_from}
use Rattle.generations.specs.declared.root.Root.{Root}
use Rattle.generations.proofs.Laws.{one_root}
use Rattle.edit_journal.specs.Appends.{start_of}
use Rattle.edit_journal.specs.Records.{RecordData, parts_of, IsPart, IsHeadOf}
use Rattle.edit_journal.specs.Ring.{Ring, RecordStart, sector_at, start_behind, IsInRing, places_of, StandsAt, HoldsOnly}
use Rattle.edit_journal.proofs.Laws.{zeros_no_head, first_is_head, body_no_head, one_number}
use Rattle.disk_copy.specs.Copies.{ring_in, IsJournalOf, IsNamed, IsEmpty, IsCopyOf, IsCopied, HasRecords}
use Rattle.disk_copy.specs.Walks.{IsCopiedFrom}

-- ---- records

-- a sector that no record takes is as they say
records_elsewhere : (ring : Ring) (start : RecordStart) (records : List RecordData) (at : ℕ) (sector : List ℕ)
    → ((offset : ℕ) → offset < places_of records → at ≡ sector_at ring (start.place + offset) → ⊥) → StandsAt ring start records at sector
records_elsewhere ring start [] at sector apart = tt
records_elsewhere ring start (r ∷ records) at sector apart = (
  λ part lt is. absurd (apart part (omega (arith, lt)) is),
  records_elsewhere ring (start_behind start r) records at sector (λ offset lt is.
      let place : start.place + parts_of (length r.text) + offset ≡ start.place + (parts_of (length r.text) + offset) = omega arith in
      apart (parts_of (length r.text) + offset) (omega (arith, lt)) (is ∙ ap (sector_at ring) place)),
)

-- one that they take is no head of a number after theirs
no_later_head : (ring : Ring) (start : RecordStart) (records : List RecordData) (at : ℕ) (sector : List ℕ) → StandsAt ring start records at sector
    → (offset : ℕ) → offset < places_of records → at ≡ sector_at ring (start.place + offset) → start.number + length records ≤ 2 ^ 64
    → (version later : ℕ) → start.number + length records ≤ later → IsHeadOf version later sector → ⊥
no_later_head ring start [] at sector stands offset lt is bound version later le head = omega (arith, lt)
no_later_head ring start (r ∷ records) at sector stands offset lt is bound version later le head = ⊎_elim
    (λ (here : offset < parts_of (length r.text)).
    let part : IsPart r.version start.number r.text offset sector = stands.0 offset here is in
    ⊎_elim
    (λ (first : offset ≡ 0).
    let own : IsHeadOf r.version start.number sector = first_is_head r.version start.number r.text sector (omega (arith, bound))
    (subst (λ (p : ℕ). IsPart r.version start.number r.text p sector) first part) in
    omega (arith, le, one_number r.version version start.number later sector own head))
    (λ (body : offset ≡ 0 → ⊥). body_no_head r.version start.number r.text offset sector version later (omega (arith, body)) part head)
    (cases_eq offset 0))
    (λ (behind : parts_of (length r.text) ≤ offset).
    let place : start.place + offset ≡ start.place + parts_of (length r.text) + (offset - parts_of (length r.text)) = omega (arith, behind) in
    no_later_head ring (start_behind start r) records at sector stands.1 (offset - parts_of (length r.text)) (omega (arith, lt, behind))
    (is ∙ ap (sector_at ring) place) (omega (arith, bound)) version later (omega (arith, le)) head)
    (cases_lt offset (parts_of (length r.text)))

-- ---- roots

first_byte : (root : Root) → slice_index (root_sector root) 0 ≡ 86
unfolding root_mark root_sector
first_byte root = refl

apart : ◌≡◌ {A = ℕ} 0 86 → ⊥
apart is = omega (arith, is)

zeros_no_root : (sector : List ℕ) (root : Root) → sector ≡ zeros → IsRootSector sector root → ⊥
zeros_no_root sector root none is = apart (ap (λ (s : List ℕ). slice_index s 0) (sym none ∙ is.bytes) ∙ first_byte root)

module _ (sectors n : ℕ) (root : Root) (used : ℕ) (source image : Image) (live : LiveRoot sectors source n root) (copy : IsCopyOf n root used source image)
  where
    abbrev IsThere : ℕ → Type 0
    IsThere at = IsNamed n root used at × (image at ≡ source at)

    abbrev IsElsewhere : ℕ → Type 0
    IsElsewhere at = (IsNamed n root used at → ⊥) × (image at ≡ zeros)

    -- a sector that is named is the source's
    named_same : (at : ℕ) → IsNamed n root used at → image at ≡ source at
    named_same at named = ⊎_elim (λ (is : IsThere at). is.1) (λ (is : IsElsewhere at). absurd (is.0 named)) (copy at)

    -- of the first three sectors only those of the format and of this root are named
    other_zeros : (at : ℕ) → at ≡ 1 + suc root.generation % 2 → image at ≡ zeros
    other_zeros at here = ⊎_elim (λ (is : IsThere at). absurd (unnamed is.0)) (λ (is : IsElsewhere at). is.1) (copy at)
      where
        unnamed : IsNamed n root used at → ⊥
        unnamed (inl (inl (inl format))) = omega (arith, here, format.1)
        unnamed (inl (inl (inr own))) = omega (arith, here, own.0, own.1)
        unnamed (inl (inr area)) = omega (arith, here, area.0)
        unnamed (inr place) = omega (arith, here, place.2)

    format_there : IsFormat n (image 0) n
    format_there =
        let same : source 0 ≡ image 0 = sym (named_same 0 (inl (inl (inl (omega arith, omega arith))))) in
        let format = live.format in
        subst (λ (s : List ℕ). IsFormat n s n) same (record { stands = format.stands; size = format.size; within = omega arith })

    -- the root of an even generation
    even : IsRootOf n 0 (source 1) root → LiveRoot n image n root
    even is =
        let own : image 1 ≡ source 1 = named_same 1 (inl (inl (inr (omega (arith, is.parity_is), omega (arith, is.parity_is))))) in
        let stands : IsRootOf n 0 (image 1) root = subst (λ (s : List ℕ). IsRootOf n 0 s root) (sym own) is in
        let other : image 2 ≡ zeros = other_zeros 2 (omega (arith, is.parity_is)) in
        record {
          format = format_there;
          even = inr (root, stands);
          odd = inl other;
          stands = inl stands;
          greatest = λ r has. ⊎_elim
              (λ (first : IsRootOf n 0 (image 1) r).
              omega (arith, ap (λ (x : Root). x.generation) (one_root (image 1) r root first.stands stands.stands)))
              (λ (second : IsRootOf n 1 (image 2) r). absurd (zeros_no_root (image 2) r other second.stands))
              has;
        }

    -- and of an odd one
    odd : IsRootOf n 1 (source 2) root → LiveRoot n image n root
    odd is =
        let own : image 2 ≡ source 2 = named_same 2 (inl (inl (inr (omega (arith, is.parity_is), omega (arith, is.parity_is))))) in
        let stands : IsRootOf n 1 (image 2) root = subst (λ (s : List ℕ). IsRootOf n 1 s root) (sym own) is in
        let other : image 1 ≡ zeros = other_zeros 1 (omega (arith, is.parity_is)) in
        record {
          format = format_there;
          even = inl other;
          odd = inr (root, stands);
          stands = inr stands;
          greatest = λ r has. ⊎_elim
              (λ (first : IsRootOf n 0 (image 1) r). absurd (zeros_no_root (image 1) r other first.stands))
              (λ (second : IsRootOf n 1 (image 2) r).
              omega (arith, ap (λ (x : Root). x.generation) (one_root (image 2) r root second.stands stands.stands)))
              has;
        }

    -- The root is the live one of a copy too.
    pub copy_lives : LiveRoot n image n root
    copy_lives = ⊎_elim even odd live.stands

    -- ---- the journal

    module _ (version : ℕ) (records : List RecordData) (journal : IsJournalOf n version root records source) (all : used ≡ places_of records) where
      abbrev start : RecordStart
      start = start_of root.journal_at root.edits

      stands_there : (at : ℕ) → StandsAt (ring_in n) start records at (image at)
      stands_there at = ⊎_elim
          (λ (is : IsThere at). subst (StandsAt (ring_in n) start records at) (sym is.1) (journal.records.stand at))
          (λ (is : IsElsewhere at). records_elsewhere (ring_in n) start records at (image at)
          (λ offset lt here. is.0 (inr (offset, omega (arith, lt, all), here))))
          (copy at)

      named_no_head : (at version later : ℕ) → IsInRing (ring_in n) at → suc root.edits + length records ≤ later → image at ≡ source at
          → IsHeadOf version later (image at) → IsNamed n root used at → ⊥
      named_no_head at version later inside le same head (inl (inl (inl format))) = omega (arith, inside.0, format.1)
      named_no_head at version later inside le same head (inl (inl (inr own))) = omega (arith, inside.0, own.1)
      named_no_head at version later inside le same head (inl (inr area)) = omega (arith, inside.1, area.0)
      named_no_head at version later inside le same head (inr place) =
          no_later_head (ring_in n) start records at (source at) (journal.records.stand at) place.0 (omega (arith, place.1, all)) place.2
          journal.records.numbers version later le (subst (IsHeadOf version later) same head)

      -- A copy has the records that were read, and no later ones.
      pub copy_journal : HoldsOnly (ring_in n) start records image
      copy_journal = record {
        records = record {
          lengths = journal.records.lengths;
          room = journal.records.room;
          numbers = journal.records.numbers;
          stand = stands_there;
        };
        last = λ at version later inside known le head. ⊎_elim
            (λ (is : IsThere at). named_no_head at version later inside le is.1 head is.0)
            (λ (is : IsElsewhere at). zeros_no_head version later (subst (IsHeadOf version later) is.1 head))
            (copy at);
      }

-- a copy that was made
pub copied : (sectors n : ℕ) (root : Root) (used last : ℕ) (source : Image) (history : History) → LiveRoot sectors source n root
    → HasRecords n (version_from (source 0)) root used last source → ((image : Image) → MayLeave history image → IsCopyOf n root used source image)
    → IsCopied sectors source last history
copied sectors n root used last source history live records copies = record {
  n = n;
  root = root;
  used = used;
  live = live;
  records = records;
  copies = copies;
  opens = λ image may. (
    copy_lives sectors n root used source image live (copies image may),
    copy_journal sectors n root used source image live (copies image may) (version_from (source 0)) records.0 records.1 records.2,
  );
}

-- the same of a copy that was made of an image, and then synced
pub copied_from : (count n version : ℕ) (root : Root) (source old : Image) (last : ℕ) (before after : History)
    → IsCopiedFrom count n version root source old (seen before) last → IsEmpty old → after ≡ synced before → IsCopied count source last after
copied_from count n version root source old last before after from empty settled =
    copied count n root (places_of from.records) last source after from.lives
    (from.records, subst (λ (v : ℕ). IsJournalOf n v root from.records source) from.version_is from.journal, refl, from.copies.0)
    (λ image may at.
    let is : image at ≡ seen before at = subst (λ (x : History). MayHold x at (image at)) settled (may at) in
    ⊎_elim
    (λ (named : IsNamed n root (places_of from.records) at × (seen before at ≡ source at)). inl (named.0, is ∙ named.1))
    (λ (other : (IsNamed n root (places_of from.records) at → ⊥) × (seen before at ≡ old at)). inr (other.0, is ∙ other.1 ∙ empty at))
    (from.copies.1 at))
