-- A ring of sectors has at most one journal, and one that holds records has the journal of these records.
use Rattle.std.proofs.Common.{◌≡◌, ◌⊎◌, inl, inr, ⊎_elim, ℕ, suc, ◌≤◌, ◌<◌, ◌+◌, ◌^◌, List, [], ◌∷◌, ◌++◌, length, length-append}
use Rattle.std.proofs.Common.{sym, ◌∙◌, ap, subst, arith, refl}
use Rattle.std.proofs.lemmas.Bool.{cases_lt}
use Rattle.std.proofs.lemmas.List.{append-nil}
use Rattle.std.proofs.lemmas.List.Elements.{All-head, All-tail}
use Rattle.sector_disk.specs.Disk.{Image}
use Rattle.edit_journal.specs.declared.sizes.TheConstants.{LAST_RECORD_VERSION}
use Rattle.edit_journal.specs.Records.{RecordData, IsRecordLength, AreUpTo, parts_of, IsPart, IsExpectedHead}
use Rattle.edit_journal.specs.Ring.{Ring, RecordStart, sector_at, start_behind, AreRecords, places_of, StandsAt, HoldsRecords, HoldsOnly}
use Rattle.edit_journal.specs.Recovers.{EndsAt, IsJournal, IsNext, IsDamaged}
use Rattle.edit_journal.proofs.Heads.{stands_push, places_push, records_push}
use Rattle.edit_journal.proofs.Laws.{first_is_head, same_first_record}
use Rattle.edit_journal.proofs.Places.{in_ring}

-- one list begins with the other
abbrev Begins : List RecordData → List RecordData → Type 0
Begins first whole = (rest : List RecordData) × (whole ≡ first ++ rest)

-- ---- a record after others

behind_length : (rs : List RecordData) (r : RecordData) (rest : List RecordData) → AreRecords (rs ++ r ∷ rest)
    → IsRecordLength r.version (length r.text)
behind_length [] r rest are = are.0
behind_length (first ∷ rs) r rest are = behind_length rs r rest are.1

behind_room : (rs : List RecordData) (r : RecordData) (rest : List RecordData)
    → places_of (rs ++ r ∷ rest) ≡ places_of rs + (parts_of (length r.text) + places_of rest)
behind_room [] r rest = omega arith
behind_room (first ∷ rs) r rest = omega (arith, behind_room rs r rest)

behind_stands : (ring : Ring) (start : RecordStart) (rs : List RecordData) (r : RecordData) (rest : List RecordData) (at : ℕ) (sector : List ℕ)
    → StandsAt ring start (rs ++ r ∷ rest) at sector → (part : ℕ) → part < parts_of (length r.text)
    → at ≡ sector_at ring (start.place + (places_of rs + part)) → IsPart r.version (start.number + length rs) r.text part sector
behind_stands ring start [] r rest at sector stands part lt is =
    let place : start.place + (0 + part) ≡ start.place + part = omega arith in
    let number : start.number ≡ start.number + 0 = omega arith in
    subst (λ (n : ℕ). IsPart r.version n r.text part sector) number (stands.0 part lt (is ∙ ap (sector_at ring) place))
behind_stands ring start (first ∷ rs) r rest at sector stands part lt is =
    let place : start.place + (parts_of (length first.text) + places_of rs + part)
    ≡ start.place + parts_of (length first.text) + (places_of rs + part) = omega arith in
    let number : suc start.number + length rs ≡ start.number + suc (length rs) = omega arith in
    subst (λ (n : ℕ). IsPart r.version n r.text part sector) number
    (behind_stands ring (start_behind start first) rs r rest at sector stands.1 part lt (is ∙ ap (sector_at ring) place))

module _ (ring : Ring) (image : Image) where
  -- ---- what is stored after records is the next record

  pub next_behind : (start : RecordStart) (rs : List RecordData) (r : RecordData) (rest : List RecordData)
      → HoldsRecords ring start (rs ++ r ∷ rest) image
      → IsNext ring start.place (places_of rs) (start.number + length rs) r image
  next_behind start rs r rest holds = record {
    length_is = behind_length rs r rest holds.lengths;
    room = omega (arith, holds.room, behind_room rs r rest);
    stands = λ part lt. behind_stands ring start rs r rest (sector_at ring (start.place + (places_of rs + part)))
        (image (sector_at ring (start.place + (places_of rs + part)))) (holds.stand (sector_at ring (start.place + (places_of rs + part)))) part lt refl;
  }

  pub number_behind : (start : RecordStart) (rs : List RecordData) (r : RecordData) (rest : List RecordData)
      → HoldsRecords ring start (rs ++ r ∷ rest) image → start.number + length rs < 2 ^ 64
  number_behind start rs r rest holds = omega (arith, holds.numbers, length-append rs (r ∷ rest))

  -- a head is stored in the first place of the next record
  next_head : (most place used number : ℕ) (r : RecordData) → IsNext ring place used number r image → number < 2 ^ 64 → r.version ≤ most
      → IsExpectedHead most number (image (sector_at ring (place + used)))
  next_head most place used number r next fits allowed =
      let here : place + (used + 0) ≡ place + used = omega arith in (
        r.version,
        next.length_is.0.0,
        allowed,
        first_is_head r.version number r.text (image (sector_at ring (place + used))) fits
            (subst (λ (at : ℕ). IsPart r.version number r.text 0 (image (sector_at ring at))) here (next.stands 0 (omega (arith, next.length_is.1)))),
      )

  -- a journal doesn't end where a place and a number are left and an expected head is stored
  pub goes_on : (most place used number : ℕ) → used < ring.places → number < 2 ^ 64 → IsExpectedHead most number (image (sector_at ring (place + used)))
      → EndsAt most ring place used number image → ⊥
  goes_on most place used number room fits head (inl full) = omega (arith, room, full)
  goes_on most place used number room fits head (inr (inl spent)) = omega (arith, fits, spent)
  goes_on most place used number room fits head (inr (inr none)) = none head

  pub next_goes_on : (most place used number : ℕ) (r : RecordData) → IsNext ring place used number r image → number < 2 ^ 64 → r.version ≤ most
      → EndsAt most ring place used number image → ⊥
  next_goes_on most place used number r next fits allowed =
      goes_on most place used number (omega (arith, next.room, next.length_is.1)) fits (next_head most place used number r next fits allowed)

  -- ---- two lists of records begin alike

  pub records_behind : (start : RecordStart) (r : RecordData) (rs : List RecordData) → HoldsRecords ring start (r ∷ rs) image
      → HoldsRecords ring (start_behind start r) rs image
  records_behind start r rs holds = record {
    lengths = holds.lengths.1;
    room = omega (arith, holds.room);
    numbers = omega (arith, holds.numbers);
    stand = λ at. (holds.stand at).1;
  }

  pub part_of_first : (start : RecordStart) (r : RecordData) (rs : List RecordData) → HoldsRecords ring start (r ∷ rs) image
      → (part : ℕ) → part < parts_of (length r.text) → IsPart r.version start.number r.text part (image (sector_at ring (start.place + part)))
  part_of_first start r rs holds part lt = (holds.stand (sector_at ring (start.place + part))).0 part lt refl

  same_first : (start : RecordStart) (r : RecordData) (rs : List RecordData) (other : RecordData) (others : List RecordData)
      → HoldsRecords ring start (r ∷ rs) image → HoldsRecords ring start (other ∷ others) image → r ≡ other
  same_first start r rs other others is too =
      same_first_record start.number r other (λ part. image (sector_at ring (start.place + part))) is.lengths.0 too.lengths.0
      (part_of_first start r rs is) (part_of_first start other others too)

  pub begin_alike : (start : RecordStart) (rs others : List RecordData) → HoldsRecords ring start rs image
      → HoldsRecords ring start others image → Begins rs others ⊎ Begins others rs
  begin_alike start [] others is too = inl (others, refl)
  begin_alike start (r ∷ rs) [] is too = inr (r ∷ rs, refl)
  begin_alike start (r ∷ rs) (other ∷ others) is too =
      let same : r ≡ other = same_first start r rs other others is too in
      let rest : HoldsRecords ring (start_behind start r) others image =
      subst (λ (q : RecordData). HoldsRecords ring (start_behind start q) others image) (sym same) (records_behind start other others too) in
      ⊎_elim
      (λ (b : Begins rs others). inl (b.0, ap (λ (q : RecordData). q ∷ others) (sym same) ∙ ap (λ (qs : List RecordData). r ∷ qs) b.1))
      (λ (b : Begins others rs). inr (b.0, ap (λ (q : RecordData). q ∷ rs) same ∙ ap (λ (qs : List RecordData). other ∷ qs) b.1))
      (begin_alike (start_behind start r) rs others (records_behind start r rs is) rest)

  -- ---- at most one journal

  -- the version of a record after others
  pub version_behind : (most : ℕ) (rs : List RecordData) (r : RecordData) (rest : List RecordData) → AreUpTo most (rs ++ r ∷ rest) → r.version ≤ most
  version_behind most [] r rest are = All-head (λ (q : RecordData). q.version ≤ most) r rest are
  version_behind most (first ∷ rs) r rest are =
      version_behind most rs r rest (All-tail (λ (q : RecordData). q.version ≤ most) first (rs ++ r ∷ rest) are)

  -- after a journal there are no more records of allowed versions
  no_more : (most : ℕ) (start : RecordStart) (rs others rest : List RecordData) → IsJournal most ring start rs image
      → HoldsRecords ring start others image → AreUpTo most others → others ≡ rs ++ rest → others ≡ rs
  no_more most start rs others [] journal holds allowed is = is ∙ append-nil rs
  no_more most start rs others (r ∷ rest) journal holds allowed is =
      let whole : HoldsRecords ring start (rs ++ r ∷ rest) image =
      subst (λ (qs : List RecordData). HoldsRecords ring start qs image) is holds in
      absurd (next_goes_on most start.place (places_of rs) (start.number + length rs) r (next_behind start rs r rest whole)
      (number_behind start rs r rest whole) (version_behind most rs r rest (subst (AreUpTo most) is allowed)) journal.ends)

  -- a ring with records from a start on has no journal without records
  pub more_than_none : (most : ℕ) (start : RecordStart) (rs : List RecordData) (r : RecordData) → IsJournal most ring start [] image
      → HoldsRecords ring start (rs ++ r ∷ []) image → AreUpTo most (rs ++ r ∷ []) → ⊥
  more_than_none most start rs r journal holds allowed = omega (
    arith,
    ap length (no_more most start [] (rs ++ r ∷ []) (rs ++ r ∷ []) journal holds allowed refl),
    length-append rs (r ∷ []),
  )

  -- nor has one where the journal goes on after them
  pub longer_than_none : (most : ℕ) (start : RecordStart) (rs : List RecordData) → HoldsRecords ring start rs image → AreUpTo most rs
      → (EndsAt most ring start.place (places_of rs) (start.number + length rs) image → ⊥) → IsJournal most ring start [] image → ⊥
  longer_than_none most start rs holds allowed more journal =
      more (subst (λ (qs : List RecordData). EndsAt most ring start.place (places_of qs) (start.number + length qs) image)
      (sym (no_more most start [] rs rs journal holds allowed refl)) journal.ends)

  -- a ring has at most one journal from a start on
  pub one_journal : (most : ℕ) (start : RecordStart) (rs others : List RecordData) → IsJournal most ring start rs image
      → IsJournal most ring start others image → rs ≡ others
  one_journal most start rs others is too = ⊎_elim
      (λ (b : Begins rs others). sym (no_more most start rs others b.0 is too.records too.versions b.1))
      (λ (b : Begins others rs). no_more most start others rs b.0 too is.records is.versions b.1)
      (begin_alike start rs others is.records too.records)

  -- a ring that holds only records of versions that the disk allows has their journal
  pub held_is_journal : (most : ℕ) (start : RecordStart) (rs : List RecordData) → most ≤ LAST_RECORD_VERSION → AreUpTo most rs
      → HoldsOnly ring start rs image → IsJournal most ring start rs image
  held_is_journal most start rs known allowed holds = record {
    records = holds.records;
    versions = allowed;
    ends = ⊎_elim
        (λ (left : places_of rs < ring.places). inr (inr (λ head.
        holds.last (sector_at ring (start.place + places_of rs)) head.0 (start.number + length rs)
        (in_ring ring (start.place + places_of rs) (omega (arith, left))) (head.1, omega (arith, head.2, known)) (omega arith) head.3)))
        (λ (full : ring.places ≤ places_of rs). inl full)
        (cases_lt (places_of rs) ring.places);
  }

  -- a ring with a damaged record after others has no journal
  pub damaged_is_none : (most : ℕ) (start : RecordStart) (rs : List RecordData) → HoldsRecords ring start rs image → AreUpTo most rs
      → IsDamaged most ring start.place (places_of rs) (start.number + length rs) image
      → (others : List RecordData) → IsJournal most ring start others image → ⊥
  damaged_is_none most start rs holds allowed damaged others journal = ⊎_elim
      (λ (b : Begins rs others). longer b.0 b.1)
      (λ (b : Begins others rs). equal (sym (no_more most start others rs b.0 journal holds allowed b.1)))
      (begin_alike start rs others holds journal.records)
    where
      equal : others ≡ rs → ⊥
      equal same = goes_on most start.place (places_of rs) (start.number + length rs) damaged.left damaged.fits damaged.head
          (subst (λ (qs : List RecordData). EndsAt most ring start.place (places_of qs) (start.number + length qs) image) same journal.ends)

      longer : (rest : List RecordData) → others ≡ rs ++ rest → ⊥
      longer [] is = equal (is ∙ append-nil rs)
      longer (r ∷ rest) is = damaged.none r (next_behind start rs r rest
          (subst (λ (qs : List RecordData). HoldsRecords ring start qs image) is journal.records))

-- ---- while records are read

pub no_records : (ring : Ring) (start : RecordStart) (image : Image) → start.number ≤ 2 ^ 64 → HoldsRecords ring start [] image
no_records ring start image fits = record { lengths = tt; room = omega arith; numbers = omega (arith, fits); stand = λ at. tt }

-- the next record, after others
pub one_more : (ring : Ring) (start : RecordStart) (rs : List RecordData) (r : RecordData) (image : Image) → HoldsRecords ring start rs image
    → start.number + length rs < 2 ^ 64 → IsNext ring start.place (places_of rs) (start.number + length rs) r image
    → HoldsRecords ring start (rs ++ r ∷ []) image
one_more ring start rs r image holds fits next = record {
  lengths = records_push rs r holds.lengths next.length_is;
  room = omega (arith, places_push rs r, next.room);
  numbers = omega (arith, length-append rs (r ∷ []), fits);
  stand = λ at. stands_push ring start rs r at (image at) (holds.stand at) (λ part lt is.
      let place : start.place + places_of rs + part ≡ start.place + (places_of rs + part) = omega arith in
      subst (λ (p : ℕ). IsPart r.version (start.number + length rs) r.text part (image p)) (sym (is ∙ ap (sector_at ring) place)) (next.stands part lt));
}
