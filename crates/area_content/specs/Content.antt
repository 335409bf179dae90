-- The snapshot and the archive of a map, as the sectors of an area.
use Rattle.std.specs.Prelude.{ℕ, ◌+◌, ◌-◌, List, ◌++◌, length, replicate, nat_lt, if◌then◌else◌}
use Rattle.generations.specs.Areas.{sectors_of}
use Rattle.sector_bytes.specs.Bytes.{sector_piece}
use Rattle.sector_disk.specs.declared.disk.TheConstants.{SECTOR_BYTES}

-- what contracts see: the bytes of the snapshot and of the archive
pub record ContentView : Type 0 where
  pub snapshot : List ℕ
  pub archive : List ℕ

-- the number of sectors that they take, each starting at a sector
abbrev pub sectors_taken : ContentView → ℕ
sectors_taken c = sectors_of (length c.snapshot) + sectors_of (length c.archive)

-- a sector that begins with these bytes and is padded with zeros
abbrev pub padded : List ℕ → List ℕ
padded bytes = bytes ++ replicate (SECTOR_BYTES - length bytes) 0

-- the sector of this index: first those of the snapshot, then those of the archive
abbrev pub sector_at : ContentView → ℕ → List ℕ
sector_at c index =
    if nat_lt index (sectors_of (length c.snapshot)) then padded (sector_piece c.snapshot index)
    else padded (sector_piece c.archive (index - sectors_of (length c.snapshot)))
