-- Laws of records, for the crates above.
use Rattle.std.proofs.Common.{◌≡◌, ℕ, ◌<◌, ◌≤◌, ◌+◌, ◌-◌, ◌^◌, ◌==◌, if◌then◌else◌, List, [], ◌∷◌, ◌++◌, length, take, drop, replicate}
use Rattle.std.proofs.Common.{⊎_elim, refl, sym, ◌∙◌, ap, subst, arith}
use Rattle.std.proofs.lemmas.List.{take_at, drop_at}
use Rattle.std.proofs.Math.Seq.{take-append_seam}
use Rattle.std.proofs.lemmas.Bool.{cases_eq}
use Rattle.std.proofs.lemmas.Bool.Decides.{nat_tests}
use Rattle.sector_disk.specs.Disk.{Image, seen, all_zeros}
use Rattle.sector_disk.specs.Disk.History.{begun, wrote}
use Rattle.sector_disk.proofs.History.{seen_same, seen_other}
use Rattle.edit_journal.specs.declared.sizes.TheConstants.{PART_BYTES}
use Rattle.edit_journal.specs.Records.{RecordData, record_of, IsRecordVersion, IsRecordLength, parts_of, piece, part_front, record_sector, IsPart, IsHeadOf}
use Rattle.edit_journal.specs.Ring.{Ring, RecordStart, sector_at, start_behind, NoLaterHead, HoldsOnly}
use Rattle.edit_journal.proofs.Pieces.{one_cut, same_bytes}
use Rattle.edit_journal.proofs.Places.{in_ring}
use Rattle.edit_journal.proofs.Fronts.{front_length, kind_there, version_there, number_there, length_there}

-- ---- parts and heads

-- a part as it is written is that part
pub written_is_part : (version number : ℕ) (text : List ℕ) (part : ℕ) → IsPart version number text part (record_sector version number text part)
unfolding record_sector
written_is_part version number text part =
    let rest = piece text part ++ replicate (PART_BYTES - length (piece text part)) 0 in
    let is_front : length (part_front version number (length text) part) ≡ 16 = front_length version number (length text) part in
    record {
      front = take_at (part_front version number (length text) part) rest 16 is_front;
      bytes = ap (take (length (piece text part))) (drop_at (part_front version number (length text) part) rest 16 is_front)
          ∙ take-append_seam (piece text part) (replicate (PART_BYTES - length (piece text part)) 0);
    }

-- the first part is the head of its number
pub first_is_head : (version number : ℕ) (text sector : List ℕ) → number < 2 ^ 64 → IsPart version number text 0 sector → IsHeadOf version number sector
first_is_head version number text sector fits is = record {
  kind_is = kind_there version number (length text) 0 sector is.front;
  version_is = version_there version number (length text) 0 sector is.front;
  number_is = number_there version number (length text) 0 sector is.front fits;
}

body_kind : (part : ℕ) → 0 < part → ◌≡◌ {A = ℕ} (if part == 0 then 1 else 2) 2
body_kind part pos = grind (arith, nat_tests)

-- a body is no head of any number
pub body_no_head : (version number : ℕ) (text : List ℕ) (part : ℕ) (sector : List ℕ) (other_version other : ℕ) → 0 < part
    → IsPart version number text part sector → IsHeadOf other_version other sector → ⊥
body_no_head version number text part sector other_version other pos is head =
    omega (arith, sym (kind_there version number (length text) part sector is.front) ∙ head.kind_is, body_kind part pos)

-- a sector is the head of one number
pub one_number : (version other_version n m : ℕ) (sector : List ℕ) → IsHeadOf version n sector → IsHeadOf other_version m sector → n ≡ m
one_number version other_version n m sector is too = sym is.number_is ∙ too.number_is

-- a sector of zeros is no head
pub zeros_no_head : (version number : ℕ) → IsHeadOf version number (replicate 512 0) → ⊥
zeros_no_head version number head = omega (arith, head.kind_is)

-- ---- at most one list of records

-- records of one version and text are one
same_record : (r other : RecordData) → r.version ≡ other.version → r.text ≡ other.text → r ≡ other
same_record r other version text = ap (λ (v : ℕ). record_of v r.text) version ∙ ap (λ (t : List ℕ). record_of other.version t) text

-- texts of one length are one where their pieces are
pub same_text : (text other : List ℕ) → length text ≡ length other
    → ((part : ℕ) → part < parts_of (length text) → piece text part ≡ piece other part) → text ≡ other
same_text text other len same = same_bytes PART_BYTES (parts_of (length text)) text other len (omega arith) same

-- two texts of one length have the same piece in a sector
one_piece : (version other_version number : ℕ) (text other : List ℕ) (part : ℕ) (sector : List ℕ) → length text ≡ length other
    → IsPart version number text part sector → IsPart other_version number other part sector → piece text part ≡ piece other part
one_piece version other_version number text other part sector len is too = one_cut PART_BYTES text other part (drop 16 sector) len is.bytes too.bytes

-- Records of one number are one where their parts are in the same sectors: the head has the version and the length, and the parts have the bytes.
pub same_first_record : (number : ℕ) (r other : RecordData) (sectors : ℕ → List ℕ)
    → IsRecordLength r.version (length r.text) → IsRecordLength other.version (length other.text)
    → ((part : ℕ) → part < parts_of (length r.text) → IsPart r.version number r.text part (sectors part))
    → ((part : ℕ) → part < parts_of (length other.text) → IsPart other.version number other.text part (sectors part)) → r ≡ other
same_first_record number r other sectors fits fits_too is too =
    let head : IsPart r.version number r.text 0 (sectors 0) = is 0 (omega (arith, fits.1)) in
    let head_too : IsPart other.version number other.text 0 (sectors 0) = too 0 (omega (arith, fits_too.1)) in
    let version : r.version ≡ other.version = sym (version_there r.version number (length r.text) 0 (sectors 0) head.front)
    ∙ version_there other.version number (length other.text) 0 (sectors 0) head_too.front in
    let len : length r.text ≡ length other.text = sym (length_there r.version number (length r.text) 0 (sectors 0) head.front (omega (arith, fits)))
    ∙ length_there other.version number (length other.text) 0 (sectors 0) head_too.front (omega (arith, fits_too)) in
    same_record r other version (same_text r.text other.text len (λ part lt.
    one_piece r.version other.version number r.text other.text part (sectors part) len (is part lt)
    (too part (subst (λ (n : ℕ). part < parts_of n) len lt))))

module _ (ring : Ring) (image : Image) where
  -- after the first record the image has the others
  pub holds_behind : (start : RecordStart) (r : RecordData) (rs : List RecordData) → HoldsOnly ring start (r ∷ rs) image
      → HoldsOnly ring (start_behind start r) rs image
  holds_behind start r rs holds = record {
    records = record {
      lengths = holds.records.lengths.1;
      room = omega (arith, holds.records.room);
      numbers = omega (arith, holds.records.numbers);
      stand = λ at. (holds.records.stand at).1;
    };
    last = λ at version later inside is le head. holds.last at version later inside is (omega (arith, le)) head;
  }

  -- each part of the first record is stored in its place
  pub first_stands : (start : RecordStart) (r : RecordData) (rs : List RecordData) → HoldsOnly ring start (r ∷ rs) image
      → (part : ℕ) → part < parts_of (length r.text) → IsPart r.version start.number r.text part (image (sector_at ring (start.place + part)))
  first_stands start r rs holds part lt = (holds.records.stand (sector_at ring (start.place + part))).0 part lt refl

  -- an image without a head of this number has no first record
  not_both : (start : RecordStart) (r : RecordData) (rs : List RecordData) → HoldsOnly ring start (r ∷ rs) image
      → HoldsOnly ring start [] image → ⊥
  not_both start r rs holds none =
      let some : 1 ≤ parts_of (length r.text) = omega (arith, holds.records.lengths.0.1) in
      none.last (sector_at ring (start.place + 0)) r.version start.number (in_ring ring (start.place + 0) (omega (arith, some, holds.records.room)))
      holds.records.lengths.0.0 (omega arith)
      (first_is_head r.version start.number r.text (image (sector_at ring (start.place + 0))) (omega (arith, holds.records.numbers))
      (first_stands start r rs holds 0 (omega (arith, some))))

  -- the first records of two lists are one: the head has the version and the length, and the parts have the bytes
  first_same : (start : RecordStart) (r : RecordData) (rs : List RecordData) (other : RecordData) (others : List RecordData)
      → HoldsOnly ring start (r ∷ rs) image → HoldsOnly ring start (other ∷ others) image → r ≡ other
  first_same start r rs other others is too =
      same_first_record start.number r other (λ part. image (sector_at ring (start.place + part))) is.records.lengths.0 too.records.lengths.0
      (first_stands start r rs is) (first_stands start other others too)

  -- an image holds at most one list of records from a start on
  pub one_list : (start : RecordStart) (rs others : List RecordData) → HoldsOnly ring start rs image
      → HoldsOnly ring start others image → rs ≡ others
  one_list start [] [] is too = refl
  one_list start [] (other ∷ others) is too = absurd (not_both start other others too is)
  one_list start (r ∷ rs) [] is too = absurd (not_both start r rs is too)
  one_list start (r ∷ rs) (other ∷ others) is too =
      let same : r ≡ other = first_same start r rs other others is too in
      let rest : HoldsOnly ring (start_behind start r) others image =
      subst (λ (q : RecordData). HoldsOnly ring (start_behind start q) others image) (sym same) (holds_behind start other others too) in
      ap (λ (q : RecordData). q ∷ rs) same ∙ ap (λ (qs : List RecordData). other ∷ qs)
      (one_list (start_behind start r) rs others (holds_behind start r rs is) rest)

-- ---- the definitions aren't empty

-- a ring of zeros has no record
pub zeros_hold_none : (ring : Ring) (start : RecordStart) → start.number ≤ 2 ^ 64 → HoldsOnly ring start [] all_zeros
zeros_hold_none ring start fits = record {
  records = record { lengths = tt; room = omega arith; numbers = omega (arith, fits); stand = λ at. tt };
  last = λ at version later inside is le head. zeros_no_head version later head;
}

-- a disk of zeros to which the record of a short text was written
abbrev pub one_record : (version : ℕ) → Ring → RecordStart → List ℕ → Image
one_record version ring start text =
    seen (wrote (sector_at ring start.place) (record_sector version start.number text 0) (begun all_zeros))

module _ (version : ℕ) (ring : Ring) (start : RecordStart) (text : List ℕ) (fits : start.number < 2 ^ 64) where
  written_head : IsHeadOf version start.number (record_sector version start.number text 0)
  written_head = first_is_head version start.number text (record_sector version start.number text 0) fits (written_is_part version start.number text 0)

  one_no_later : NoLaterHead ring (start.number + 1) (one_record version ring start text)
  one_no_later at other later inside one_is le head = ⊎_elim
      (λ (same : at ≡ sector_at ring start.place).
      let is : one_record version ring start text at ≡ record_sector version start.number text 0 =
      seen_same (sector_at ring start.place) (record_sector version start.number text 0) (begun all_zeros) at same in
      let number : start.number ≡ later =
      one_number version other start.number later (record_sector version start.number text 0) written_head
      (subst (λ (s : List ℕ). IsHeadOf other later s) is head) in
      omega (arith, number, le))
      (λ (apart : at ≡ sector_at ring start.place → ⊥).
      let is : one_record version ring start text at ≡ replicate 512 0 =
      seen_other (sector_at ring start.place) (record_sector version start.number text 0) (begun all_zeros) at apart in
      zeros_no_head other later (subst (λ (s : List ℕ). IsHeadOf other later s) is head))
      (cases_eq at (sector_at ring start.place))

  one_stands : (at part : ℕ) → part ≡ 0 → at ≡ sector_at ring (start.place + part)
      → IsPart version start.number text part (one_record version ring start text at)
  one_stands at part first is =
      let place : start.place + part ≡ start.place = omega (arith, first) in
      let here : at ≡ sector_at ring start.place = is ∙ ap (sector_at ring) place in
      let bytes : one_record version ring start text at ≡ record_sector version start.number text 0 =
      seen_same (sector_at ring start.place) (record_sector version start.number text 0) (begun all_zeros) at here in
      subst (λ (p : ℕ). IsPart version start.number text p (one_record version ring start text at)) (sym first)
      (subst (λ (s : List ℕ). IsPart version start.number text 0 s) (sym bytes) (written_is_part version start.number text 0))

  -- it holds the record
  pub one_record_held : IsRecordVersion version → 0 < ring.places → 1 ≤ length text → length text ≤ PART_BYTES
      → HoldsOnly ring start (record_of version text ∷ []) (one_record version ring start text)
  one_record_held may pos some short = record {
    records = record {
      lengths = ((may, some, omega (arith, short)), tt);
      room = omega (arith, pos, short);
      numbers = omega (arith, fits);
      stand = λ at. ((λ part lt is. one_stands at part (omega (arith, lt, short)) is), tt);
    };
    last = one_no_later;
  }
