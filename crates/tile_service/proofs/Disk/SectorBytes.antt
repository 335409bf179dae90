-- Bytes in the sectors of an area.
use Rattle.std.proofs.Common.{◌≡◌, ℕ, ◌+◌, List, ◌++◌, length, take, drop, slice_range, refl, sym, ◌∙◌, ap, subst, arith}
use Rattle.std.proofs.lemmas.List.{take_at}
use Rattle.sector_disk.specs.Disk.{Image}
use Rattle.sector_disk.specs.declared.disk.TheConstants.{SECTOR_BYTES}
use Rattle.sector_bytes.specs.Bytes.{bytes_from, StandsIn, AreWhole}
use Rattle.sector_bytes.proofs.Laws.{read_stands}
use Rattle.edit_journal.proofs.Pieces.{one_cut, same_bytes}
use Rattle.generations.specs.Areas.{sectors_of}
use Rattle.tile_service.specs.Stored.{HasBytes}

-- from a sector on an image has at most one list of bytes of a length
pub one_stands : (image : Image) (first : ℕ) (bytes others : List ℕ) → length bytes ≡ length others → StandsIn first bytes image
    → StandsIn first others image → bytes ≡ others
one_stands image first bytes others len is too =
    same_bytes SECTOR_BYTES (sectors_of (length bytes)) bytes others len (omega arith) (λ index lt.
    one_cut SECTOR_BYTES bytes others index (image (first + index)) len (is index) (too index))

-- the same, sector by sector
pub each_stands : (image : Image) (first : ℕ) (bytes : List ℕ) → ((at : ℕ) → HasBytes first bytes at (image at)) → StandsIn first bytes image
each_stands image first bytes is index = is (first + index) index refl

pub one_bytes : (image : Image) (first : ℕ) (bytes others : List ℕ) → length bytes ≡ length others
    → ((at : ℕ) → HasBytes first bytes at (image at)) → ((at : ℕ) → HasBytes first others at (image at)) → bytes ≡ others
one_bytes image first bytes others len is too =
    one_stands image first bytes others len (each_stands image first bytes is) (each_stands image first others too)

-- bytes that were read into the whole of a vector are stored where they were read
pub read_whole : (image : Image) (first size len : ℕ) (into old : List ℕ) → length into ≡ len → AreWhole first 0 size image
    → into ≡ slice_range (bytes_from image first (sectors_of (0 + size))) 0 (0 + size)
    → StandsIn first (take len (into ++ drop (length into) old)) image
read_whole image first size len into old long whole is =
    let same : 0 + size ≡ size = omega arith in
    let all : into ≡ slice_range (bytes_from image first (sectors_of size)) 0 size =
    is ∙ ap (λ (n : ℕ). slice_range (bytes_from image first (sectors_of n)) 0 n) same in
    subst (λ (bytes : List ℕ). StandsIn first bytes image) (sym all ∙ sym (take_at into (drop (length into) old) len long))
    (read_stands image first size whole)
