-- The parts of a text are read one after the other, and joined.
use Rattle.std.proofs.Common.{◌≡◌, ⊎_elim, ℕ, ◌<◌, ◌≤◌, ◌+◌, ◌*◌, ◌-◌, List, ◌++◌, length, length-append, take, drop, min, sym, ◌∙◌, ap, subst, arith}
use Rattle.std.proofs.lemmas.Bool.{cases_eq}
use Rattle.std.proofs.lemmas.List.{take_all, take-append-le, drop-append-le, drop_at, length-take, length-drop}
use Rattle.sector_disk.specs.Disk.{Image}
use Rattle.edit_journal.specs.declared.sizes.TheConstants.{PART_BYTES}
use Rattle.edit_journal.specs.Records.{record_of, parts_of, piece, HasFront}
use Rattle.edit_journal.specs.Ring.{Ring, sector_at}
use Rattle.edit_journal.specs.Recovers.{PartsStand}
use Rattle.edit_journal.proofs.Fronts.{piece_length}

-- how many bytes of a text are in a part
abbrev pub piece_bytes : (bytes part : ℕ) → ℕ
piece_bytes bytes part = min PART_BYTES (bytes - PART_BYTES * part)

-- the bytes of a part, as they are cut from its sector
pub cut_length : (bytes part : ℕ) (sector cut : List ℕ) → length sector ≡ 512 → cut ≡ take (piece_bytes bytes part) (drop 16 sector)
    → length cut ≡ piece_bytes bytes part
cut_length bytes part sector cut len is =
    omega (arith, ap length is, length-take (piece_bytes bytes part) (drop 16 sector), length-drop 16 sector, len)

-- with the bytes of one part more, the text is longer
pub longer : (bytes count : ℕ) (text cut new sector : List ℕ) → count < parts_of bytes → length text ≡ min (PART_BYTES * count) bytes
    → length sector ≡ 512 → cut ≡ take (piece_bytes bytes count) (drop 16 sector) → new ≡ text ++ cut
    → length new ≡ min (PART_BYTES * (count + 1)) bytes
longer bytes count text cut new sector lt len long is new_is =
    omega (arith, ap length new_is, length-append text cut, lt, len, cut_length bytes count sector cut long is)

-- the pieces so far stay
kept_piece : (text cut : List ℕ) (count part : ℕ) → length text ≡ PART_BYTES * count → part < count → piece (text ++ cut) part ≡ piece text part
kept_piece text cut count part len lt =
    let behind : PART_BYTES * part ≤ length text = omega (arith, len, lt) in
    let whole : PART_BYTES ≤ length (drop (PART_BYTES * part) text) = omega (arith, length-drop (PART_BYTES * part) text, len, lt) in
    ap (take PART_BYTES) (drop-append-le (PART_BYTES * part) text cut behind)
    ∙ take-append-le PART_BYTES (drop (PART_BYTES * part) text) cut whole

-- and the next is what was added
new_piece : (text cut : List ℕ) (count : ℕ) → length text ≡ PART_BYTES * count → length cut ≤ PART_BYTES → piece (text ++ cut) count ≡ cut
new_piece text cut count len short = ap (take PART_BYTES) (drop_at text cut (PART_BYTES * count) len) ∙ take_all PART_BYTES cut short

-- the first `count` parts were read: the image has their fronts, and the text has their bytes
pub record AreRead (ring : Ring) (place used version number bytes : ℕ) (image : Image) (text : List ℕ) (count : ℕ) : Type 0 where
  pub fronts : (part : ℕ) → part < count → HasFront version number bytes part (image (sector_at ring (place + (used + part))))
  pub pieces : (part : ℕ) → part < count
      → piece text part ≡ take (piece_bytes bytes part) (drop 16 (image (sector_at ring (place + (used + part)))))

module _ (ring : Ring) (place used version number bytes : ℕ) (image : Image) where
  pub none_read : (text : List ℕ) → AreRead ring place used version number bytes image text 0
  none_read text = record { fronts = λ part lt. absurd (omega (arith, lt)); pieces = λ part lt. absurd (omega (arith, lt)) }

  one_read : (text cut : List ℕ) (count : ℕ) (sector : List ℕ) → count < parts_of bytes → length text ≡ min (PART_BYTES * count) bytes
      → length sector ≡ 512 → sector ≡ image (sector_at ring (place + (used + count))) → HasFront version number bytes count sector
      → cut ≡ take (piece_bytes bytes count) (drop 16 sector)
      → AreRead ring place used version number bytes image text count → AreRead ring place used version number bytes image (text ++ cut) (count + 1)
  one_read text cut count sector lt len long is front cut_is so_far = record {
    fronts = λ part below. ⊎_elim
        (λ (same : part ≡ count). subst (λ (p : ℕ). HasFront version number bytes p (image (sector_at ring (place + (used + p))))) (sym same)
        (subst (λ (s : List ℕ). HasFront version number bytes count s) is front))
        (λ (apart : part ≡ count → ⊥). so_far.fronts part (omega (arith, below, apart)))
        (cases_eq part count);
    pieces = λ part below. ⊎_elim
        (λ (same : part ≡ count). subst
        (λ (p : ℕ). piece (text ++ cut) p ≡ take (piece_bytes bytes p) (drop 16 (image (sector_at ring (place + (used + p)))))) (sym same)
        (new_piece text cut count full (omega (arith, cut_length bytes count sector cut long cut_is))
        ∙ cut_is ∙ ap (λ (s : List ℕ). take (piece_bytes bytes count) (drop 16 s)) is))
        (λ (apart : part ≡ count → ⊥).
        kept_piece text cut count part full (omega (arith, below, apart)) ∙ so_far.pieces part (omega (arith, below, apart)))
        (cases_eq part count);
  }
    where
      full : length text ≡ PART_BYTES * count
      full = omega (arith, lt, len)

  pub next_read : (text cut new : List ℕ) (count : ℕ) (sector : List ℕ) → count < parts_of bytes → length text ≡ min (PART_BYTES * count) bytes
      → length sector ≡ 512 → sector ≡ image (sector_at ring (place + (used + count))) → HasFront version number bytes count sector
      → cut ≡ take (piece_bytes bytes count) (drop 16 sector) → new ≡ text ++ cut
      → AreRead ring place used version number bytes image text count → AreRead ring place used version number bytes image new (count + 1)
  next_read text cut new count sector lt len long is front cut_is new_is so_far =
      subst (λ (t : List ℕ). AreRead ring place used version number bytes image t (count + 1)) (sym new_is)
      (one_read text cut count sector lt len long is front cut_is so_far)

  -- all parts were read
  pub all_read : (text : List ℕ) (count : ℕ) → count ≡ parts_of bytes → length text ≡ bytes → AreRead ring place used version number bytes image text count
      → PartsStand ring place used number (record_of version text) image
  all_read text count all len read part lt =
      let below : part < count = omega (arith, all, len, lt) in
      record {
        front = subst (λ (n : ℕ). HasFront version number n part (image (sector_at ring (place + (used + part))))) (sym len) (read.fronts part below);
        bytes = ap (λ (n : ℕ). take n (drop 16 (image (sector_at ring (place + (used + part))))))
            (piece_length text part ∙ ap (λ (n : ℕ). piece_bytes n part) len) ∙ sym (read.pieces part below);
      }
