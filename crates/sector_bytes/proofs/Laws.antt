-- Bytes stored in sectors and bytes read from sectors, for dependent crates.
use Rattle.std.proofs.Common.{◌≡◌, ⊎_elim, ℕ, zero, suc, ◌<◌, ◌≤◌, ◌+◌, ◌-◌, ◌*◌, List, []}
use Rattle.std.proofs.Common.{◌++◌, length, replicate, take, drop, min, slice_range, sym, ◌∙◌, ap, subst, arith}
use Rattle.std.proofs.lemmas.Bool.{cases_lt}
use Rattle.std.proofs.lemmas.List.{take_all, take-take, take-append-le, take_at, drop_at, drop_all, drop-drop, drop-take, length-take, length-drop}
use Rattle.std.proofs.lemmas.Slice.{between_is}
use Rattle.std.proofs.Math.Seq.{take-add}
use Rattle.sector_disk.specs.Disk.{History, Image, seen}
use Rattle.sector_disk.specs.declared.disk.TheConstants.{SECTOR_BYTES}
use Rattle.generations.specs.Areas.{sectors_of}
use Rattle.sector_bytes.specs.Bytes.{whole_sector, bytes_from, sector_piece, StandsIn, AreWhole}
use Rattle.sector_bytes.specs.Source.{SourceView, AreItsBytes, IsUntouched}
use Rattle.sector_bytes.proofs.Pieces.{whole_length, whole_is, piece_is}

-- ---- bytes stored in sectors are read from them

-- the first bytes of those stored in a sector are read
first_read : (image : Image) (first size : ℕ) (bytes : List ℕ) → size ≤ SECTOR_BYTES → size ≤ length bytes → StandsIn first bytes image
    → take size (whole_sector (image first)) ≡ take size bytes
first_read image first size bytes fits within stands =
    let sector : List ℕ = image first in
    let piece : List ℕ = take SECTOR_BYTES bytes in
    let there : take (length piece) sector ≡ piece = ap (λ (n : ℕ). take (length piece) (image n)) (omega arith) ∙ stands 0 in
    let long : size ≤ length piece = omega (arith, length-take SECTOR_BYTES bytes, fits, within) in
    let enough : length piece ≤ length sector = omega (arith, ap length there, length-take (length piece) sector) in
    take-take size SECTOR_BYTES (sector ++ replicate SECTOR_BYTES 0) fits
    ∙ take-append-le size sector (replicate SECTOR_BYTES 0) (omega (arith, long, enough))
    ∙ sym (take-take size (length piece) sector long) ∙ ap (take size) there ∙ take-take size SECTOR_BYTES bytes fits

-- bytes after the first sector are stored from the next sector on
rest_stands : (image : Image) (first : ℕ) (bytes : List ℕ) → StandsIn first bytes image → StandsIn (suc first) (drop SECTOR_BYTES bytes) image
rest_stands image first bytes stands index =
    let same : sector_piece bytes (suc index) ≡ sector_piece (drop SECTOR_BYTES bytes) index =
    ap (λ (n : ℕ). take SECTOR_BYTES (drop n bytes)) (omega arith)
    ∙ ap (take SECTOR_BYTES) (sym (drop-drop (SECTOR_BYTES * index) SECTOR_BYTES bytes)) in
    ap (λ (p : List ℕ). take (length p) (image (suc first + index))) (sym same)
    ∙ ap (λ (n : ℕ). take (length (sector_piece bytes (suc index))) (image n)) (omega arith) ∙ stands (suc index) ∙ same

front_read : (image : Image) (count first size : ℕ) (bytes : List ℕ) → size ≤ SECTOR_BYTES * count → size ≤ length bytes → StandsIn first bytes image
    → take size (bytes_from image first count) ≡ take size bytes
front_read image zero first size bytes fits within stands = ap (λ (n : ℕ). take n (bytes_from image first zero)) none ∙ sym (ap (λ (n : ℕ). take n bytes) none)
  where
    none : size ≡ 0
    none = omega (arith, fits)
front_read image (suc count) first size bytes fits within stands = ⊎_elim
    (λ (short : size < SECTOR_BYTES).
    take-append-le size (whole_sector (image first)) (bytes_from image (suc first) count) (omega (arith, short, whole_length (image first)))
    ∙ first_read image first size bytes (omega (arith, short)) within stands)
    (λ (long : SECTOR_BYTES ≤ size).
    let rest : ℕ = size - SECTOR_BYTES in
    let split : size ≡ SECTOR_BYTES + rest = omega (arith, long) in
    let sector : List ℕ = whole_sector (image first) in
    let others : List ℕ = bytes_from image (suc first) count in
    let one : sector ≡ take SECTOR_BYTES bytes =
    sym (take_all SECTOR_BYTES sector (omega (arith, whole_length (image first))))
    ∙ first_read image first SECTOR_BYTES bytes (omega arith) (omega (arith, long, within)) stands in
    let next : take rest others ≡ take rest (drop SECTOR_BYTES bytes) =
    front_read image count (suc first) rest (drop SECTOR_BYTES bytes) (omega (arith, fits))
    (omega (arith, within, length-drop SECTOR_BYTES bytes)) (rest_stands image first bytes stands) in
    ap (λ (n : ℕ). take n (sector ++ others)) split ∙ take-add SECTOR_BYTES rest (sector ++ others)
    ∙ ap (λ (l : List ℕ). l ++ take rest (drop SECTOR_BYTES (sector ++ others))) (take_at sector others SECTOR_BYTES (whole_length (image first)) ∙ one)
    ∙ ap (λ (l : List ℕ). take SECTOR_BYTES bytes ++ l) (ap (take rest) (drop_at sector others SECTOR_BYTES (whole_length (image first))) ∙ next)
    ∙ sym (ap (λ (n : ℕ). take n bytes) split ∙ take-add SECTOR_BYTES rest bytes))
    (cases_lt size SECTOR_BYTES)

-- the bytes stored in the sectors are the bytes read from them
pub stands_read : (image : Image) (first at n : ℕ) (bytes : List ℕ) → StandsIn first bytes image → at + n ≤ length bytes
    → slice_range (bytes_from image first (sectors_of (at + n))) at (at + n) ≡ slice_range bytes at (at + n)
stands_read image first at n bytes stands within =
    let all : List ℕ = bytes_from image first (sectors_of (at + n)) in
    between_is all at (at + n) ∙ ap (drop at) (front_read image (sectors_of (at + n)) first (at + n) bytes (omega arith) within stands)
    ∙ sym (between_is bytes at (at + n))

-- ---- bytes read from sectors are stored in them

-- the first n bytes of the sectors are stored in each sector that they reach
reached : (image : Image) (first n index : ℕ) → index < sectors_of n → length (image (first + index)) ≡ SECTOR_BYTES
    → sector_piece (take n (bytes_from image first (sectors_of n))) index ≡ take (min SECTOR_BYTES (n - SECTOR_BYTES * index)) (image (first + index))
reached image first n index lt len =
    let all : List ℕ = bytes_from image first (sectors_of n) in
    let from : ℕ = SECTOR_BYTES * index in
    let some : n ≡ from + (n - from) = omega (arith, lt) in
    let size : ℕ = min SECTOR_BYTES (n - from) in
    ap (take SECTOR_BYTES) (ap (λ (m : ℕ). drop from (take m all)) some ∙ drop-take from (n - from) all)
    ∙ take_least SECTOR_BYTES (n - from) (drop from all)
    ∙ sym (take-take size SECTOR_BYTES (drop from all) (omega arith))
    ∙ ap (take size) (piece_is image first (sectors_of n) index lt ∙ whole_is (image (first + index)) len)
  where
    take_least : (a b : ℕ) (bytes : List ℕ) → take a (take b bytes) ≡ take (min a b) bytes
    take_least a b bytes = ⊎_elim
        (λ (lt : a < b). take-take a b bytes (omega (arith, lt)) ∙ ap (λ (n : ℕ). take n bytes) (omega (arith, lt)))
        (λ (ge : b ≤ a). take_all a (take b bytes) (omega (arith, length-take b bytes, ge)) ∙ ap (λ (n : ℕ). take n bytes) (omega (arith, ge)))
        (cases_lt a b)

front_stands : (image : Image) (first n : ℕ) → AreWhole first 0 n image → StandsIn first (take n (bytes_from image first (sectors_of n))) image
front_stands image first n whole index = ⊎_elim
    (λ (lt : index < sectors_of n).
    let len : length (image (first + index)) ≡ SECTOR_BYTES =
    ap (λ (m : ℕ). length (image (first + m))) (omega arith) ∙ whole (SECTOR_BYTES * index) (omega arith) (omega (arith, lt)) in
    let is = reached image first n index lt len in
    ap (λ (m : ℕ). take m (image (first + index)))
    (ap length is ∙ length-take (min SECTOR_BYTES (n - SECTOR_BYTES * index)) (image (first + index)) ∙ omega (arith, len)) ∙ sym is)
    (λ (over : sectors_of n ≤ index).
    let none : sector_piece (take n (bytes_from image first (sectors_of n))) index ≡ [] =
    ap (take SECTOR_BYTES) (drop_all (SECTOR_BYTES * index) (take n (bytes_from image first (sectors_of n)))
    (omega (arith, over, length-take n (bytes_from image first (sectors_of n))))) in
    ap (λ (p : List ℕ). take (length p) (image (first + index))) none ∙ sym none)
    (cases_lt index (sectors_of n))

-- bytes read from the first byte on are stored in the sectors
pub read_stands : (image : Image) (first n : ℕ) → AreWhole first 0 n image
    → StandsIn first (slice_range (bytes_from image first (sectors_of n)) 0 n) image
read_stands image first n whole =
    let same : n ≡ n - 0 = omega arith in
    subst (λ (m : ℕ). StandsIn first (take m (bytes_from image first (sectors_of n))) image) same (front_stands image first n whole)

-- ---- sources whose disk is unchanged

-- the bytes of the source are unchanged
pub still_there : {D : Type 0} (sectors : D → ℕ) (honest : D → Type 0) (history : D → History) (faults : D → ℕ) (old new : SourceView D)
    (bytes : List ℕ) → IsUntouched sectors honest history faults old new → new.len ≡ old.len → honest new.disk.now
    → AreItsBytes old.first old.len bytes (seen (history old.disk.now)) → AreItsBytes new.first new.len bytes (seen (history new.disk.now))
still_there sectors honest history faults old new bytes same len is are = record {
  length_is = are.length_is ∙ sym len;
  stands = subst (λ (h : History). StandsIn new.first bytes (seen h)) (sym (same.same_history is))
      (subst (λ (first : ℕ). StandsIn first bytes (seen (history old.disk.now))) (sym same.same_first) are.stands);
}
