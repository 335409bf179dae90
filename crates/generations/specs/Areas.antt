-- How the sectors of a disk are divided.
use Rattle.std.specs.Prelude.{◌≤◌, ◌+◌, ◌-◌, ◌*◌, ◌/◌, ◌%◌, ℕ}
use Rattle.sector_disk.specs.declared.disk.TheConstants.{SECTOR_BYTES}
use Rattle.generations.specs.declared.sizes.TheConstants.{MIN_SECTORS, MAX_SECTORS, JOURNAL_START}

-- a disk can be formatted with n sectors
abbrev pub IsSize : ℕ → Type 0
IsSize n = (MIN_SECTORS ≤ n) × (n ≤ MAX_SECTORS)

-- how many of n sectors are the journal's
abbrev pub journal_sectors : ℕ → ℕ
journal_sectors n = n / 4

-- how many of them each of the two areas has
abbrev pub area_sectors : ℕ → ℕ
area_sectors n = (n - JOURNAL_START - journal_sectors n) / 2

-- the first sector of the area of a generation, on a disk of n sectors
abbrev pub area_start : (n generation : ℕ) → ℕ
area_start n generation = JOURNAL_START + journal_sectors n + (generation % 2) * area_sectors n

-- how many sectors this count of bytes takes
abbrev pub sectors_of : ℕ → ℕ
sectors_of bytes = (bytes + (SECTOR_BYTES - 1)) / SECTOR_BYTES

-- the first sector of the archive of a generation, on a disk of n sectors: the one after its snapshot
abbrev pub archive_start : (n generation snapshot_len : ℕ) → ℕ
archive_start n generation snapshot_len = area_start n generation + sectors_of snapshot_len
