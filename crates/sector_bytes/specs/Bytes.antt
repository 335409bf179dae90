-- Bytes stored in consecutive sectors.
use Rattle.std.specs.Prelude.{◌≡◌, ◌≤◌, ◌<◌, ◌+◌, ◌*◌, ◌/◌, ℕ, List, [], ◌++◌, length, replicate, take, drop}
use Rattle.std.proofs.Common.{zero, suc}
use Rattle.sector_disk.specs.Disk.{Image}
use Rattle.sector_disk.specs.declared.disk.TheConstants.{SECTOR_BYTES}

-- The SECTOR_BYTES bytes of a sector, as a disk reads it. If the image has fewer, zeros are appended; if it has more, the rest is dropped.
abbrev pub whole_sector : List ℕ → List ℕ
whole_sector sector = take SECTOR_BYTES (sector ++ replicate SECTOR_BYTES 0)

-- the bytes of consecutive sectors, from a first one on
abbrev pub bytes_from : Image → (first count : ℕ) → List ℕ
bytes_from image first zero = []
bytes_from image first (suc count) = whole_sector (image first) ++ bytes_from image (suc first) count

-- the part of the bytes in one of their sectors, by its index
abbrev pub sector_piece : List ℕ → ℕ → List ℕ
sector_piece bytes index = take SECTOR_BYTES (drop (SECTOR_BYTES * index) bytes)

-- the bytes are stored in consecutive sectors from sector first on, whatever is stored after their end
abbrev pub StandsIn : (first : ℕ) → List ℕ → Image → Type 0
StandsIn first bytes image = (index : ℕ) → take (length (sector_piece bytes index)) (image (first + index)) ≡ sector_piece bytes index

-- each sector that contains one of the count bytes from offset at on has exactly SECTOR_BYTES bytes
abbrev pub AreWhole : (first at count : ℕ) → Image → Type 0
AreWhole first at count image = (place : ℕ) → at ≤ place → place < at + count → length (image (first + place / SECTOR_BYTES)) ≡ SECTOR_BYTES
