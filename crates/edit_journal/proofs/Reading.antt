-- What is known of a ring while its records are read.
use Rattle.std.proofs.Common.{◌≡◌, ℕ, ◌≤◌, ◌<◌, ◌+◌, ◌-◌, ◌^◌, List, [], ◌∷◌, ◌++◌, length, sym, ◌∙◌, ap, subst, arith}
use Rattle.std.proofs.lemmas.List.{map-append, length-map}
use Rattle.sector_disk.specs.Disk.{Image}
use Rattle.edit_journal.specs.declared.records.Record.{Record}
use Rattle.edit_journal.specs.declared.sizes.TheConstants.{FIRST_RECORD_VERSION}
use Rattle.edit_journal.specs.Records.{RecordData, record_data, records_of, IsRecordLength, AreUpTo, parts_of, HasFront, IsPart, IsHeadOf, IsExpectedHead}
use Rattle.edit_journal.specs.Ring.{Ring, RecordStart, sector_at, AreRecords, places_of, HoldsRecords}
use Rattle.edit_journal.specs.Appends.{start_of}
use Rattle.edit_journal.specs.Recovers.{EndsAt, IsJournal, PartsStand, FrontsStand, IsNext, IsDamaged}
use Rattle.edit_journal.specs.Releases.{MayTake}
use Rattle.edit_journal.proofs.Fronts.{version_there, length_there}
use Rattle.edit_journal.proofs.Recovers.{one_more, goes_on, longer_than_none, damaged_is_none}
use Rattle.edit_journal.proofs.Releases.{records_take}

-- ---- one record

module _ (ring : Ring) (place used number : ℕ) (image : Image) (sector : List ℕ) (is : sector ≡ image (sector_at ring (place + used)))
    (version : ℕ) (head : IsHeadOf version number sector) where
  -- the first part of the next record
  first_part : (r : RecordData) → IsNext ring place used number r image → IsPart r.version number r.text 0 sector
  first_part r next =
      let here : place + (used + 0) ≡ place + used = omega arith in
      subst (IsPart r.version number r.text 0) (sym is)
      (subst (λ (at : ℕ). IsPart r.version number r.text 0 (image (sector_at ring at))) here (next.stands 0 (omega (arith, next.length_is.1))))

  -- its version is the one that the head has
  same_version : (r : RecordData) → IsNext ring place used number r image → r.version ≡ version
  same_version r next = sym (version_there r.version number (length r.text) 0 sector (first_part r next).front) ∙ head.version_is

  -- its length is the one that the head has
  same_length : (bytes : ℕ) (r : RecordData) → IsRecordLength version bytes → HasFront version number bytes 0 sector
      → IsNext ring place used number r image → length r.text ≡ bytes
  same_length bytes r fits front next =
      sym (length_there r.version number (length r.text) 0 sector (first_part r next).front (omega (arith, next.length_is)))
      ∙ length_there version number bytes 0 sector front (omega (arith, fits))

  -- a head whose length or count of parts isn't that of a record has no next record
  pub none_by_head : ((bytes : ℕ) → IsRecordLength version bytes → HasFront version number bytes 0 sector → ⊥)
      → (r : RecordData) → IsNext ring place used number r image → ⊥
  none_by_head none r next =
      none (length r.text) (subst (λ (v : ℕ). IsRecordLength v (length r.text)) (same_version r next) next.length_is)
      (subst (λ (v : ℕ). HasFront v number (length r.text) 0 sector) (same_version r next) (first_part r next).front)

  module _ (bytes : ℕ) (fits : IsRecordLength version bytes) (front : HasFront version number bytes 0 sector) where
    -- nor has a head with more parts than places are left
    pub none_by_room : ring.places < used + parts_of bytes → (r : RecordData) → IsNext ring place used number r image → ⊥
    none_by_room over r next = omega (arith, over, next.room, ap parts_of (same_length bytes r fits front next))

    -- nor one whose bodies aren't there
    pub none_by_bodies : (FrontsStand version ring place used number bytes image → ⊥)
        → (r : RecordData) → IsNext ring place used number r image → ⊥
    none_by_bodies none r next =
        let same : length r.text ≡ bytes = same_length bytes r fits front next in
        none (subst (λ (n : ℕ). FrontsStand version ring place used number n image) same
        (subst (λ (v : ℕ). FrontsStand v ring place used number (length r.text) image) (same_version r next)
        (λ part lt. (next.stands part lt).front)))

  -- a journal goes on where a head that is expected is stored
  pub no_end : (most : ℕ) → used < ring.places → number < 2 ^ 64 → FIRST_RECORD_VERSION ≤ version → version ≤ most
      → EndsAt most ring place used number image → ⊥
  no_end most left fits first allowed =
      goes_on ring image most place used number left fits (subst (IsExpectedHead most number) is (version, first, allowed, head))

  pub damage : (most : ℕ) → used < ring.places → number < 2 ^ 64 → FIRST_RECORD_VERSION ≤ version → version ≤ most
      → ((r : RecordData) → IsNext ring place used number r image → ⊥) → IsDamaged most ring place used number image
  damage most left fits first allowed none = record {
    left = left;
    fits = fits;
    head = subst (IsExpectedHead most number) is (version, first, allowed, head);
    none = none;
  }

-- ---- the records so far

pub records_more : (found : List Record) (next : Record) → records_of (found ++ next ∷ []) ≡ records_of found ++ record_data next ∷ []
records_more found next = map-append record_data found (next ∷ [])

pub records_count : (found : List Record) → length (records_of found) ≡ length found
records_count found = length-map found record_data

-- records are counted
pub counted : (rs : List RecordData) (edits used last : ℕ) → AreRecords rs → used ≡ places_of rs → last ≡ edits + length rs
    → MayTake (last - edits) used
counted rs edits used last are used_is last_is =
    let takes : MayTake (length rs) (places_of rs) = records_take rs are in
    (omega (arith, used_is, last_is, takes.0), omega (arith, used_is, last_is, takes.1))

-- the journal that is read so far has these records
module _ (ring now : Ring) (start : RecordStart) (place edits used last : ℕ) (rs : List RecordData) (image : Image)
    (same_ring : now ≡ ring) (same_start : start_of place edits ≡ start) (used_is : used ≡ places_of rs) (last_is : last ≡ edits + length rs)
    (holds : HoldsRecords ring start rs image) where
  next_number : last + 1 ≡ start.number + length rs
  next_number = omega (arith, last_is, ap (λ (s : RecordStart). s.number) same_start)

  moved : (P : Ring → ℕ → ℕ → ℕ → Type 0) → P now place used (last + 1) → P ring start.place (places_of rs) (start.number + length rs)
  moved P found =
      subst (λ (q : Ring). P q start.place (places_of rs) (start.number + length rs)) same_ring
      (subst (λ (p : ℕ). P now p (places_of rs) (start.number + length rs)) (ap (λ (s : RecordStart). s.place) same_start)
      (subst (λ (u : ℕ). P now place u (start.number + length rs)) used_is
      (subst (λ (n : ℕ). P now place used n) next_number found)))

  module _ (most : ℕ) (allowed : AreUpTo most rs) where
    pub whole_journal : EndsAt most now place used (last + 1) image → IsJournal most ring start rs image
    whole_journal ends = record {
      records = holds;
      versions = allowed;
      ends = moved (λ q p u n. EndsAt most q p u n image) ends;
    }

    pub no_journal : IsDamaged most now place used (last + 1) image
        → (others : List RecordData) → IsJournal most ring start others image → ⊥
    no_journal damaged = damaged_is_none ring image most start rs holds allowed (moved (λ q p u n. IsDamaged most q p u n image) damaged)

    pub not_without : (EndsAt most now place used (last + 1) image → ⊥) → IsJournal most ring start [] image → ⊥
    not_without more = longer_than_none ring image most start rs holds allowed (moved (λ q p u n. EndsAt most q p u n image → ⊥) more)

  module _ (r : RecordData) (length_is : IsRecordLength r.version (length r.text)) (room : used + parts_of (length r.text) ≤ now.places)
      (fits : last + 1 < 2 ^ 64) (stands : PartsStand now place used (last + 1) r image) where
    pub with_next : HoldsRecords ring start (rs ++ r ∷ []) image
    with_next = one_more ring start rs r image holds (omega (arith, fits, next_number))
        (moved (λ q p u n. IsNext q p u n r image) (record { length_is = length_is; room = room; stands = stands }))
