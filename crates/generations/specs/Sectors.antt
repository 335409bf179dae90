-- The bytes of the format's sector and of a root's. Numbers are stored lowest byte first.
use Rattle.std.specs.Prelude.{◌≡◌, ◌⊎◌, Option, Some, None, ◌≢◌, ◌<◌, ◌≤◌, ◌+◌, ◌-◌, ◌^◌, ◌%◌, ℕ, List, ◌++◌, codes, replicate, take, slice_range}
use Rattle.std.specs.Int.{w32, w64, to_le_bytes, from_le_bytes}
use Rattle.sector_disk.specs.declared.disk.TheConstants.{SECTOR_BYTES}
use Rattle.generations.specs.Areas.{IsSize, journal_sectors, area_sectors, sectors_of}
use Rattle.generations.specs.declared.root.Root.{Root}
use Rattle.generations.specs.declared.sizes.TheConstants.{FIRST_VERSION, LAST_VERSION}

-- the first bytes of a formatted disk
unfoldable pub disk_mark : List ℕ
disk_mark = codes "VTILEDSK"

-- the first bytes of a root
unfoldable pub root_mark : List ℕ
root_mark = codes "VTROOT01"

-- a sector of zeros
abbrev pub zeros : List ℕ
zeros = replicate SECTOR_BYTES 0

-- there is a format of this version
abbrev pub IsVersion : ℕ → Type 0
IsVersion version = (version ≡ FIRST_VERSION) ⊎ (version ≡ LAST_VERSION)

-- the sector of the format of a version with n sectors: the mark, the version, n
unfoldable pub format_sector : (version n : ℕ) → List ℕ
format_sector version n = disk_mark ++ to_le_bytes w32 version ++ to_le_bytes w64 n ++ replicate (SECTOR_BYTES - 20) 0

-- the version in the sector of a format, whatever else the sector has
abbrev pub version_from : List ℕ → ℕ
version_from sector = from_le_bytes w32 (slice_range sector 8 12)

-- the sector is that of the format with n sectors, of a version that there is
abbrev pub IsFormatSector : List ℕ → ℕ → Type 0
IsFormatSector sector n = IsVersion (version_from sector) × (sector ≡ format_sector (version_from sector) n)

-- the sector begins with the mark of a format
abbrev pub HasMark : List ℕ → Type 0
HasMark sector = take 8 sector ≡ disk_mark

-- the sector is that of a format with n sectors, which a disk of this count has
pub record IsFormat (count : ℕ) (sector : List ℕ) (n : ℕ) : Type 0 where
  pub stands : IsFormatSector sector n
  pub size : IsSize n
  pub within : n ≤ count

-- the sector of a root: the mark and five numbers
unfoldable pub root_sector : Root → List ℕ
root_sector root =
    root_mark ++ to_le_bytes w64 root.generation ++ to_le_bytes w64 root.edits ++ to_le_bytes w64 root.journal_at
    ++ to_le_bytes w64 root.snapshot_len ++ to_le_bytes w64 root.archive_len ++ replicate (SECTOR_BYTES - 48) 0

-- the number in the eight bytes from an offset on
abbrev pub number_from : ℕ → List ℕ → ℕ
number_from at sector = from_le_bytes w64 (slice_range sector at (at + 8))

-- the count of sectors in the sector of a format, whatever else the sector has
abbrev pub sectors_from : List ℕ → ℕ
sectors_from sector = number_from 12 sector

-- the five numbers of a root, each at its offset
unfoldable pub root_from : List ℕ → Root
root_from sector = record {
  generation = number_from 8 sector;
  edits = number_from 16 sector;
  journal_at = number_from 24 sector;
  snapshot_len = number_from 32 sector;
  archive_len = number_from 40 sector;
}

-- each number of a root fits its eight bytes
pub record AreNumbers (root : Root) : Type 0 where
  pub generation : root.generation < 2 ^ 64
  pub edits : root.edits < 2 ^ 64
  pub journal_at : root.journal_at < 2 ^ 64
  pub snapshot_len : root.snapshot_len < 2 ^ 64
  pub archive_len : root.archive_len < 2 ^ 64

-- On a disk of n sectors the journal has the sector that the root names, and an area holds its snapshot and archive.
pub record CanStand (n : ℕ) (root : Root) : Type 0 where
  pub journal : root.journal_at < journal_sectors n
  pub area : sectors_of root.snapshot_len + sectors_of root.archive_len ≤ area_sectors n

-- the sector has the form of a root, with these numbers
pub record IsRootSector (sector : List ℕ) (root : Root) : Type 0 where
  pub bytes : sector ≡ root_sector root
  pub numbers : AreNumbers root

-- On a disk of n sectors the sector of even generations, for parity 0, or of odd ones, for parity 1, has this root.
pub record IsRootOf (n parity : ℕ) (sector : List ℕ) (root : Root) : Type 0 where
  pub stands : IsRootSector sector root
  pub parity_is : root.generation % 2 ≡ parity
  pub can : CanStand n root

-- the sector is one that no root was written to
abbrev pub IsNoRoot : List ℕ → Type 0
IsNoRoot sector = sector ≡ zeros

-- it has neither zeros nor a root
abbrev pub IsBad : ℕ → ℕ → List ℕ → Type 0
IsBad n parity sector = (sector ≢ zeros) × ((root : Root) → IsRootOf n parity sector root → ⊥)

-- what the sector has: zeros, or this root
abbrev pub IsSlot : ℕ → ℕ → List ℕ → Option Root → Type 0
IsSlot n parity sector None = IsNoRoot sector
IsSlot n parity sector (Some root) = IsRootOf n parity sector root

-- of two roots, or fewer, this is the one of greater generation
abbrev pub IsNewest : Option Root → Option Root → Option Root → Type 0
IsNewest first second None = (first ≡ None) × (second ≡ None)
IsNewest first second (Some root) = ((first ≡ Some root) ⊎ (second ≡ Some root))
    × ((other : Root) → (first ≡ Some other) ⊎ (second ≡ Some other) → other.generation ≤ root.generation)
