-- Which archive a disk has.
use Rattle.std.specs.Prelude.{◌≡◌, ℕ}
use Rattle.sector_disk.specs.Disk.{Image}
use Rattle.generations.specs.Disks.{LiveRoot}
use Rattle.generations.specs.declared.root.Root.{Root}
use Rattle.published_tiles.specs.declared.place.ArchivePlace.{ArchivePlace}
use Rattle.tile_service.specs.Tiles.{archive_place}

-- it is the place of the archive that the live root of a disk of count sectors names
abbrev pub IsOfLiveRoot : (count : ℕ) → Image → ArchivePlace → Type 0
IsOfLiveRoot count image place = (n : ℕ) × (root : Root) × LiveRoot count image n root
    × (place ≡ archive_place n root.generation root.snapshot_len root.archive_len)
