-- The front of a part's sector, and the bytes after it.
use Rattle.std.proofs.Common.{◌≡◌, ◌↔◌, Bool, false, ℕ, ◌<◌, ◌≤◌, ◌+◌, ◌*◌, ◌-◌, ◌^◌, ◌==◌, if◌then◌else◌}
use Rattle.std.proofs.Common.{List, ◌++◌, length, take, drop, replicate, min, sym, ap, subst, ◌∙◌, arith, refl}
use Rattle.std.specs.Prelude.{slice_index, IsTrue}
use Rattle.std.proofs.lemmas.Bool.{iff_false}
use Rattle.std.proofs.lemmas.Nat.{from_le_bytes-to_le_bytes_8, from_le_bytes-to_le_bytes_4}
use Rattle.std.proofs.lemmas.List.{take-append-drop, take_at, drop-replicate}
use Rattle.std.proofs.Math.Seq.{drop-append-add}
use Rattle.edit_journal.specs.declared.sizes.TheConstants.{PART_BYTES}
use Rattle.edit_journal.proofs.Pieces.{cut_length}
use Rattle.edit_journal.specs.Records.{IsRecordLength, piece, part_front, record_sector, HasFront, number_from, length_from}

-- ---- the front

pub front_length : (version number bytes part : ℕ) → length (part_front version number bytes part) ≡ 16
unfolding part_front
front_length version number bytes part = refl

module _ (version number bytes part : ℕ) (rest : List ℕ) where
  kind_back : slice_index (part_front version number bytes part ++ rest) 0 ≡ (if part == 0 then 1 else 2)
  unfolding part_front
  kind_back = refl

  version_back : slice_index (part_front version number bytes part ++ rest) 1 ≡ version
  unfolding part_front
  version_back = refl

  number_back : number < 2 ^ 64 → number_from (part_front version number bytes part ++ rest) ≡ number
  unfolding part_front
  number_back fits = from_le_bytes-to_le_bytes_8 number fits

  length_back : bytes < 2 ^ 32 → length_from (part_front version number bytes part ++ rest) ≡ bytes
  unfolding part_front
  length_back fits = from_le_bytes-to_le_bytes_4 bytes fits

-- what a sector with a front says
module _ (version number bytes part : ℕ) (sector : List ℕ) (front : HasFront version number bytes part sector) where
  whole : part_front version number bytes part ++ drop 16 sector ≡ sector
  whole = ap (λ (f : List ℕ). f ++ drop 16 sector) (sym front) ∙ take-append-drop 16 sector

  pub kind_there : slice_index sector 0 ≡ (if part == 0 then 1 else 2)
  kind_there = ap (λ (s : List ℕ). slice_index s 0) (sym whole) ∙ kind_back version number bytes part (drop 16 sector)

  pub version_there : slice_index sector 1 ≡ version
  version_there = ap (λ (s : List ℕ). slice_index s 1) (sym whole) ∙ version_back version number bytes part (drop 16 sector)

  pub number_there : number < 2 ^ 64 → number_from sector ≡ number
  number_there fits = ap number_from (sym whole) ∙ number_back version number bytes part (drop 16 sector) fits

  pub length_there : bytes < 2 ^ 32 → length_from sector ≡ bytes
  length_there fits = ap length_from (sym whole) ∙ length_back version number bytes part (drop 16 sector) fits

-- a sector has no head of a number where it hasn't the front of the length that is read there
pub no_head : (version number : ℕ) (sector : List ℕ) (found_version found read : ℕ) (tests : Bool) → found_version ≡ version → found ≡ number
    → read ≡ length_from sector → (IsTrue tests ↔ HasFront found_version found read 0 sector) → tests ≡ false
    → (bytes : ℕ) → IsRecordLength version bytes → HasFront version number bytes 0 sector → ⊥
no_head version number sector found_version found read tests same_version same is decides fails bytes fits front =
    let length_is : bytes ≡ read = sym (is ∙ length_there version number bytes 0 sector front (omega (arith, fits))) in
    iff_false decides fails (subst (λ (v : ℕ). HasFront v found read 0 sector) (sym same_version)
    (subst (λ (n : ℕ). HasFront version n read 0 sector) (sym same)
    (subst (λ (b : ℕ). HasFront version number b 0 sector) length_is front)))

-- nor where that is the length of no record
pub no_length : (version number : ℕ) (sector : List ℕ) (read : ℕ) → read ≡ length_from sector → (IsRecordLength version read → ⊥)
    → (bytes : ℕ) → IsRecordLength version bytes → HasFront version number bytes 0 sector → ⊥
no_length version number sector read is none bytes fits front =
    none (subst (IsRecordLength version) (sym (is ∙ length_there version number bytes 0 sector front (omega (arith, fits)))) fits)

-- ---- the bytes of the text

pub piece_length : (text : List ℕ) (part : ℕ) → length (piece text part) ≡ min PART_BYTES (length text - PART_BYTES * part)
piece_length text part = cut_length PART_BYTES text part

-- zeros with a front written over them
put_front : (front bytes first : List ℕ) → length front ≡ 16 → bytes ≡ front
    → first ≡ take 0 (replicate 512 0) ++ (bytes ++ drop (0 + length bytes) (replicate 512 0)) → first ≡ front ++ replicate PART_BYTES 0
put_front front bytes first len same is =
    let whole : 0 + length bytes ≡ 16 = omega (arith, ap length same, len) in
    is ∙ ap (λ (n : ℕ). bytes ++ drop n (replicate 512 0)) whole ∙ ap (λ (f : List ℕ). f ++ replicate PART_BYTES 0) same

-- and then with a piece after it
put_piece : (front bytes first second : List ℕ) → length front ≡ 16 → first ≡ front ++ replicate PART_BYTES 0
    → second ≡ take 16 first ++ (bytes ++ drop (16 + length bytes) first) → second ≡ front ++ (bytes ++ replicate (PART_BYTES - length bytes) 0)
put_piece front bytes first second len is written =
    written ∙ ap (λ (s : List ℕ). take 16 s ++ (bytes ++ drop (16 + length bytes) s)) is
    ∙ ap (λ (s : List ℕ). s ++ (bytes ++ drop (16 + length bytes) (front ++ replicate PART_BYTES 0))) (take_at front (replicate PART_BYTES 0) 16 len)
    ∙ ap (λ (s : List ℕ). front ++ (bytes ++ s)) (ap (λ (k : ℕ). drop (k + length bytes) (front ++ replicate PART_BYTES 0)) (sym len)
    ∙ drop-append-add front (replicate PART_BYTES 0) (length bytes) ∙ drop-replicate (length bytes) PART_BYTES 0)

pub put_twice : (version number : ℕ) (text : List ℕ) (part : ℕ) (front bytes first second : List ℕ)
    → front ≡ part_front version number (length text) part → bytes ≡ piece text part
    → first ≡ take 0 (replicate 512 0) ++ (front ++ drop (0 + length front) (replicate 512 0))
    → second ≡ take 16 first ++ (bytes ++ drop (16 + length bytes) first)
    → second ≡ record_sector version number text part
unfolding record_sector
put_twice version number text part front bytes first second front_is bytes_is is written =
    let len : length (part_front version number (length text) part) ≡ 16 = front_length version number (length text) part in
    put_piece (part_front version number (length text) part) bytes first second len
    (put_front (part_front version number (length text) part) front first len front_is is) written
    ∙ ap (λ (b : List ℕ). part_front version number (length text) part ++ (b ++ replicate (PART_BYTES - length b) 0)) bytes_is

-- a piece of a text fits into a sector
pub piece_fits : (text : List ℕ) (part : ℕ) (bytes : List ℕ) → bytes ≡ piece text part → length bytes ≤ PART_BYTES
piece_fits text part bytes is = omega (arith, ap length is, piece_length text part)
