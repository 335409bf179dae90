-- The pieces of bytes in consecutive sectors.
use Rattle.std.proofs.lemmas.Grind.{common_steps}
use Rattle.std.proofs.Common.{◌≡◌, ⊎_elim, ℕ, zero, suc, ◌<◌, ◌≤◌, ◌+◌, ◌-◌, ◌*◌, List}
use Rattle.std.proofs.Common.{◌++◌, length, length-append, replicate, take, drop, slice_range, sym, ◌∙◌, ap, arith}
use Rattle.std.proofs.lemmas.List.{take-take, take_at, drop_at, drop-drop, drop-take, length-take, length-drop, length-replicate}
use Rattle.sector_disk.specs.Disk.{Image}
use Rattle.generations.specs.Areas.{sectors_of}
use Rattle.sector_disk.specs.declared.disk.TheConstants.{SECTOR_BYTES}
use Rattle.std.proofs.lemmas.Bool.{cases_lt}
use Rattle.std.proofs.lemmas.Slice.{take-put_mid}
use Rattle.std.proofs.Math.Seq.{take-add}
use borrow.Rule.Slice.PartMut.{put_mid, post_of}
use Rattle.sector_bytes.specs.Bytes.{whole_sector, bytes_from, sector_piece, AreWhole}

-- a sector as it is read has SECTOR_BYTES bytes
pub whole_length : (sector : List ℕ) → length (whole_sector sector) ≡ SECTOR_BYTES
whole_length sector =
    omega (
      arith,
      length-take SECTOR_BYTES (sector ++ replicate SECTOR_BYTES 0),
      length-append sector (replicate SECTOR_BYTES 0),
      length-replicate SECTOR_BYTES zero,
    )

-- if it is stored with SECTOR_BYTES bytes, those are read
pub whole_is : (sector : List ℕ) → length sector ≡ SECTOR_BYTES → whole_sector sector ≡ sector
whole_is sector len = take_at sector (replicate SECTOR_BYTES 0) SECTOR_BYTES len

-- after one sector come the others
behind : (front rest : List ℕ) (index : ℕ) → length front ≡ SECTOR_BYTES
    → drop (SECTOR_BYTES * suc index) (front ++ rest) ≡ drop (SECTOR_BYTES * index) rest
behind front rest index len =
    ap (λ (n : ℕ). drop n (front ++ rest)) (omega arith) ∙ sym (drop-drop (SECTOR_BYTES * index) SECTOR_BYTES (front ++ rest))
    ∙ ap (drop (SECTOR_BYTES * index)) (drop_at front rest SECTOR_BYTES len)

-- each piece of the bytes of sectors is a sector
pub piece_is : (image : Image) (first count index : ℕ) → index < count
    → sector_piece (bytes_from image first count) index ≡ whole_sector (image (first + index))
piece_is image first zero index lt = absurd (omega (arith, lt))
piece_is image first (suc count) zero lt =
    take_at (whole_sector (image first)) (bytes_from image (suc first) count) SECTOR_BYTES (whole_length (image first))
    ∙ ap (λ (n : ℕ). whole_sector (image n)) (omega arith)
piece_is image first (suc count) (suc index) lt =
    ap (take SECTOR_BYTES) (behind (whole_sector (image first)) (bytes_from image (suc first) count) index (whole_length (image first)))
    ∙ piece_is image (suc first) count index (omega (arith, lt))
    ∙ ap (λ (n : ℕ). whole_sector (image n)) (omega arith)

-- bytes within one sector are a part of their piece there
pub within_piece : (bytes : List ℕ) (index offset size : ℕ) → offset + size ≤ SECTOR_BYTES
    → take size (drop (SECTOR_BYTES * index + offset) bytes) ≡ take size (drop offset (sector_piece bytes index))
within_piece bytes index offset size fits =
    let there : List ℕ = drop (SECTOR_BYTES * index) bytes in
    let split : offset + (SECTOR_BYTES - offset) ≡ SECTOR_BYTES = omega (arith, fits) in
    ap (take size) (sym (drop-drop offset (SECTOR_BYTES * index) bytes))
    ∙ sym (take-take size (SECTOR_BYTES - offset) (drop offset there) (omega (arith, fits)))
    ∙ ap (take size) (sym (drop-take offset (SECTOR_BYTES - offset) there) ∙ ap (λ (n : ℕ). drop offset (take n there)) split)

-- ---- bytes read sector by sector

-- overwriting bytes in the middle keeps the length
pub put_length : (done part size : ℕ) (into next : List ℕ) → done + part ≤ length into → size ≡ part → length next ≡ part
    → length (put_mid done size into next) ≡ length into
put_length done part size into next within size_is long =
    let behind : List ℕ = post_of done size into in
    omega (
      arith,
      length-append (take done into) (next ++ behind),
      length-append next behind,
      length-take done into,
      length-drop size (drop done into),
      length-drop done into,
      within,
      size_is,
      long,
    )

-- After done bytes from offset at on, the next part is in the sector of this index, from this offset in the sector on.
module _ (image : Image) (first at done part index offset : ℕ) (there : SECTOR_BYTES * index + offset ≡ at + done)
    (fits : offset + part ≤ SECTOR_BYTES) (len : length (image (first + index)) ≡ SECTOR_BYTES) where
  -- one more sector is whole
  pub next_whole : AreWhole first at done image → AreWhole first at (done + part) image
  next_whole whole place from below = ⊎_elim
      (λ (before : place < at + done). whole place from before)
      (λ (behind : at + done ≤ place). ap (λ (n : ℕ). length (image (first + n))) (omega (arith, below, behind, fits, there)) ∙ len)
      (cases_lt place (at + done))

  -- the bytes of the sector are appended to the bytes so far
  next_read : (count : ℕ) (front next : List ℕ) → index < count → next ≡ take part (drop offset (image (first + index)))
      → front ≡ take done (drop at (bytes_from image first count))
      → front ++ next ≡ take (done + part) (drop at (bytes_from image first count))
  next_read count front next lt next_is front_is =
      let bytes : List ℕ = bytes_from image first count in
      let sector : sector_piece bytes index ≡ image (first + index) = piece_is image first count index lt ∙ whole_is (image (first + index)) len in
      let last : next ≡ take part (drop done (drop at bytes)) =
      next_is ∙ ap (λ (s : List ℕ). take part (drop offset s)) (sym sector) ∙ sym (within_piece bytes index offset part fits)
      ∙ ap (λ (n : ℕ). take part (drop n bytes)) there ∙ ap (take part) (sym (drop-drop done at bytes)) in
      ap (λ (f : List ℕ). f ++ next) front_is ∙ ap (λ (l : List ℕ). take done (drop at bytes) ++ l) last ∙ sym (take-add done part (drop at bytes))

  -- the same in a buffer, where they are written after the bytes so far
  pub next_put : (count size kept : ℕ) (into next : List ℕ) → index < count → size ≡ part → done ≤ length into → length next ≡ part
      → next ≡ slice_range (image (first + index)) offset (offset + size)
      → take done into ≡ slice_range (bytes_from image first count) at (at + done)
      → take (done + part) (put_mid done kept into next) ≡ slice_range (bytes_from image first count) at (at + (done + part))
  next_put count size kept into next lt size_is within long next_is front_is =
      take-put_mid done kept into next (done + part) (omega (arith, long)) within
      ∙ next_read count (take done into) next lt
      (next_is ∙ ap (λ (n : ℕ). take n (drop offset (image (first + index)))) (omega (arith, size_is)))
      (front_is ∙ ap (λ (n : ℕ). take n (drop at (bytes_from image first count))) (omega arith))
      ∙ ap (λ (n : ℕ). take n (drop at (bytes_from image first count))) (omega arith)

-- ---- bytes after whole sectors that are skipped

-- after the first k sectors come the others
pub bytes_after : (image : Image) (first k count : ℕ)
    → drop (SECTOR_BYTES * k) (bytes_from image first (k + count)) ≡ bytes_from image (first + k) count
bytes_after image first zero count =
    let none : SECTOR_BYTES * zero ≡ 0 = omega arith in
    let all : zero + count ≡ count = omega arith in
    let here : first ≡ first + zero = omega arith in
    ap (λ (n : ℕ). drop n (bytes_from image first (zero + count))) none
    ∙ ap (λ (n : ℕ). bytes_from image first n) all
    ∙ ap (λ (n : ℕ). bytes_from image n count) here
bytes_after image first (suc k) count =
    let more : suc k + count ≡ suc (k + count) = omega arith in
    let there : suc first + k ≡ first + suc k = omega arith in
    ap (λ (n : ℕ). drop (SECTOR_BYTES * suc k) (bytes_from image first n)) more
    ∙ behind (whole_sector (image first)) (bytes_from image (suc first) (k + count)) k (whole_length (image first))
    ∙ bytes_after image (suc first) k count
    ∙ ap (λ (n : ℕ). bytes_from image n count) there

-- Byte at of the bytes from sector first on is byte offset of those from k sectors later on.
module _ (image : Image) (first k at offset n : ℕ) (is : at ≡ SECTOR_BYTES * k + offset) where
  pub shifted_read : slice_range (bytes_from image (first + k) (sectors_of (offset + n))) offset (offset + n)
      ≡ slice_range (bytes_from image first (sectors_of (at + n))) at (at + n)
  shifted_read =
      let count : ℕ = sectors_of (offset + n) in
      ap (λ (m : ℕ). take m (drop offset (bytes_from image (first + k) count))) (omega arith)
      ∙ ap (λ (l : List ℕ). take (at + n - at) (drop offset l)) (sym (bytes_after image first k count))
      ∙ ap (take (at + n - at)) (drop-drop offset (SECTOR_BYTES * k) (bytes_from image first (k + count)))
      ∙ ap (λ (m : ℕ). take (at + n - at) (drop m (bytes_from image first (k + count)))) (sym is)
      ∙ ap (λ (m : ℕ). take (at + n - at) (drop at (bytes_from image first m))) (omega (arith, is))

  pub shifted_whole : AreWhole (first + k) offset n image → AreWhole first at n image
  shifted_whole whole place from below =
      ap (λ (m : ℕ). length (image m)) (omega (arith, is, from))
      ∙ whole (place - SECTOR_BYTES * k) (omega (arith, is, from)) (omega (arith, is, from, below))

-- ---- a whole sector

-- what was read of a whole sector is the part of it that was asked for
pub whole_read : (sector next : List ℕ) (offset size : ℕ) → size ≡ SECTOR_BYTES → offset + size ≤ SECTOR_BYTES → length next ≡ SECTOR_BYTES
    → next ≡ sector → next ≡ slice_range sector offset (offset + size)
whole_read sector next offset size all fits long is = grind (arith, common_steps)
