-- The records of a journal, found one after the other.
use Rattle.std.proofs.Common.{◌≡◌, ◌⊎◌, inl, inr, ⊎_elim, ℕ, zero, suc, ◌≤◌, ◌<◌, ◌+◌, ◌^◌, List, [], ◌∷◌, ◌++◌, length, take, drop}
use Rattle.std.proofs.Common.{Result, Ok, Err, Option, None, Some, refl, sym, ◌∙◌, ap, subst, arith}
use Rattle.std.specs.Prelude.{MatchResult}
use Rattle.std.proofs.lemmas.Bool.{cases_lt}
use Rattle.std.proofs.lemmas.List.{take-append-drop, take_all, length-take}
use Rattle.std.proofs.lemmas.Nat.{from_le_bytes-to_le_bytes_4}
use Rattle.sector_disk.specs.Disk.{Image}
use Rattle.edit_journal.specs.Records.{RecordData, IsRecordLength, parts_of, part_front, HasFront, IsPart, IsHeadOf, IsExpectedHead, length_from}
use Rattle.edit_journal.specs.Ring.{Ring, RecordStart, sector_at, places_of, HoldsRecords}
use Rattle.edit_journal.specs.Recovers.{EndsAt, IsNext}
use Rattle.edit_journal.specs.Appends.{start_of}
use Rattle.edit_journal.proofs.Laws.{first_is_head}
use Rattle.edit_journal.proofs.Recovers.{next_behind, number_behind, goes_on, next_goes_on, version_behind}
use Rattle.generations.specs.declared.root.Root.{Root}
use Rattle.disk_copy.specs.Copies.{ring_in, IsJournalOf}
use Rattle.disk_copy.specs.Shared.{HasWalked, FindsNext}
use Rattle.disk_copy.specs.Walks.{HasHead, IsFirstOf, TellsNext, IsNoNext}
use Rattle.disk_copy.specs.declared.fault.CopyFault.{CopyFault}
use Rattle.disk_copy.specs.declared.fault.CopyFault.TheVariants.{Moved}

-- ---- the front of a record says its length

length_back : (version number bytes : ℕ) (rest : List ℕ) → bytes < 2 ^ 32 → length_from (part_front version number bytes 0 ++ rest) ≡ bytes
unfolding part_front
length_back version number bytes rest fits = from_le_bytes-to_le_bytes_4 bytes fits

length_there : (version number bytes : ℕ) (sector : List ℕ) → HasFront version number bytes 0 sector → bytes < 2 ^ 32 → length_from sector ≡ bytes
length_there version number bytes sector front fits =
    ap length_from (sym (ap (λ (f : List ℕ). f ++ drop 16 sector) (sym front) ∙ take-append-drop 16 sector))
    ∙ length_back version number bytes (drop 16 sector) fits

pub one_length : (version other number bytes more : ℕ) (sector : List ℕ) → HasFront version number bytes 0 sector → HasFront other number more 0 sector
    → bytes < 2 ^ 32 → more < 2 ^ 32 → bytes ≡ more
one_length version other number bytes more sector front too fits fits_too =
    sym (length_there version number bytes sector front fits) ∙ length_there other number more sector too fits_too

-- ---- a list after some of its elements

record Split (k : ℕ) (records : List RecordData) : Type 0 where
  pub next : RecordData
  pub rest : List RecordData
  pub is : records ≡ take k records ++ next ∷ rest
  pub places : places_of (take (suc k) records) ≡ places_of (take k records) + parts_of (length next.text)

split : (k : ℕ) (records : List RecordData) → k < length records → Split k records
split k [] lt = absurd (omega (arith, lt))
split zero (r ∷ records) lt = record { next = r; rest = records; is = refl; places = omega arith }
split (suc k) (r ∷ records) lt =
    let found : Split k records = split k records (omega (arith, lt)) in
    record {
      next = found.next;
      rest = found.rest;
      is = ap (λ (rs : List RecordData). r ∷ rs) found.is;
      places = omega (arith, found.places);
    }

module _ (n version : ℕ) (root : Root) (records : List RecordData) (image : Image) (used last : ℕ) (journal : IsJournalOf n version root records image)
    (walked : HasWalked root records used last) where
  abbrev ring : Ring
  ring = ring_in n

  abbrev start : RecordStart
  start = start_of root.journal_at root.edits

  abbrev k : ℕ
  k = walked.count

  counted : length (take k records) ≡ k
  counted = omega (arith, length-take k records, walked.within)

  numbered : start.number + length (take k records) ≡ last + 1
  numbered = omega (arith, counted, walked.last_is)

  -- if these are all, the journal ends after them
  all_end : k ≡ length records → EndsAt version ring root.journal_at used (last + 1) image
  all_end all =
      let same : take k records ≡ records = take_all k records (omega (arith, all)) in
      subst (λ (m : ℕ). EndsAt version ring root.journal_at used m image) (omega (arith, all, walked.last_is))
      (subst (λ (u : ℕ). EndsAt version ring root.journal_at u (start.number + length records) image)
      (sym (walked.used_is ∙ ap places_of same)) journal.ends)

  -- else another one is next
  module _ (more : k < length records) where
    found : Split k records
    found = split k records more

    holds : HoldsRecords ring start (take k records ++ found.next ∷ found.rest) image
    holds = subst (λ (rs : List RecordData). HoldsRecords ring start rs image) found.is journal.records

    next : IsNext ring root.journal_at used (last + 1) found.next image
    next = subst (λ (u : ℕ). IsNext ring root.journal_at u (last + 1) found.next image) (sym walked.used_is)
        (subst (λ (m : ℕ). IsNext ring root.journal_at (places_of (take k records)) m found.next image) numbered
        (next_behind ring image start (take k records) found.next found.rest holds))

    small : last + 1 < 2 ^ 64
    small = omega (arith, numbered, number_behind ring image start (take k records) found.next found.rest holds)

    allowed : found.next.version ≤ version
    allowed = version_behind ring image version (take k records) found.next found.rest
        (subst (λ (rs : List RecordData). Rattle.edit_journal.specs.Records.AreUpTo version rs) found.is journal.versions)

    no_end : EndsAt version ring root.journal_at used (last + 1) image → ⊥
    no_end = next_goes_on ring image version root.journal_at used (last + 1) found.next next small allowed

    module _ (sector : List ℕ) (is : sector ≡ image (sector_at ring (root.journal_at + used))) where
      first : IsPart found.next.version (last + 1) found.next.text 0 sector
      first =
          let here : root.journal_at + (used + 0) ≡ root.journal_at + used = omega arith in
          subst (IsPart found.next.version (last + 1) found.next.text 0) (sym is)
          (subst (λ (at : ℕ). IsPart found.next.version (last + 1) found.next.text 0 (image (sector_at ring at))) here
          (next.stands 0 (omega (arith, next.length_is.1))))

      same_parts : (parts free : ℕ) → IsFirstOf version (last + 1) free sector parts → parts ≡ parts_of (length found.next.text)
      same_parts parts free one =
          let same : one.bytes ≡ length found.next.text =
          one_length one.version found.next.version (last + 1) one.bytes (length found.next.text) sector one.front first.front
          (omega (arith, one.length_is)) (omega (arith, next.length_is)) in
          one.parts_is ∙ ap parts_of same

      has_next : (free : ℕ) → free + used ≡ ring.places → IsNoNext version (last + 1) free sector → ⊥
      has_next free rest one =
          let same : found.next.version ≡ one.version =
          sym (first_is_head found.next.version (last + 1) found.next.text sector small first).version_is ∙ one.head.head.version_is in
          let over : free < parts_of (length found.next.text) = one.none (length found.next.text)
          (subst (λ (v : ℕ). IsRecordLength v (length found.next.text)) same next.length_is)
          (subst (λ (v : ℕ). HasFront v (last + 1) (length found.next.text) 0 sector) same first.front) in
          omega (arith, over, next.room, rest)

  -- ---- what is found

  abbrev IsAll : Type 0
  IsAll = (used ≡ places_of records) × (last ≡ root.edits + length records)

  all_found : EndsAt version ring root.journal_at used (last + 1) image → IsAll
  all_found ends = ⊎_elim
      (λ (more : k < length records). absurd (no_end more ends))
      (λ (all : length records ≤ k).
      let same : take k records ≡ records = take_all k records all in
      (walked.used_is ∙ ap places_of same, omega (arith, walked.last_is, walked.within, all)))
      (cases_lt k (length records))

  -- where no place is left, or no number
  pub spent : (used ≡ ring.places) ⊎ (last + 1 ≡ 2 ^ 64) → IsAll
  spent (inl full) = all_found (inl (omega (arith, full)))
  spent (inr last_one) = all_found (inr (inl (omega (arith, last_one))))

  module _ (free : ℕ) (rest : free + used ≡ ring.places) (left : 0 < free) (fits : last + 1 < 2 ^ 64) (sector : List ℕ)
      (is : sector ≡ image (sector_at ring (root.journal_at + used))) where
    -- a head of the next number isn't the journal's end
    headed : (v : ℕ) → HasHead version (last + 1) v sector → k < length records
    headed v head = ⊎_elim
        (λ (more : k < length records). more)
        (λ (all : length records ≤ k). absurd (goes_on ring image version root.journal_at used (last + 1) (omega (arith, rest, left)) fits
        (subst (IsExpectedHead version (last + 1)) is (v, head.first, head.allowed, head.head)) (all_end (omega (arith, all, walked.within)))))
        (cases_lt k (length records))

    pub finds : (result : Result (Option ℕ) CopyFault)
        → MatchResult result (TellsNext version (last + 1) free sector) (λ fault. (fault ≡ Moved) × IsNoNext version (last + 1) free sector)
        → FindsNext root records used last result
    finds (Ok None) none = all_found (inr (inr (λ head. none (subst (IsExpectedHead version (last + 1)) (sym is) head))))
    finds (Ok (Some parts)) one =
        let more : k < length records = headed one.version one.head in
        record {
          count = suc k;
          within = omega (arith, more);
          used_is = omega (arith, walked.used_is, (found more).places, same_parts more sector is parts free one);
          last_is = omega (arith, walked.last_is);
        }
    finds (Err fault) none =
        let more : k < length records = headed none.1.version none.1.head in
        absurd (has_next more sector is free rest none.1)
