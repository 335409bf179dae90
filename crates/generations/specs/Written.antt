-- What a sector has while a disk is formatted.
use Rattle.std.specs.Prelude.{◌≡◌, ◌⊎◌, ◌<◌, ℕ, List}
use Rattle.sector_disk.specs.Disk.{History, MayHold}
use Rattle.generations.specs.Sectors.{zeros}

-- the sector has what it might have had before, or what was written to it
abbrev pub IsOldOr : History → ℕ → List ℕ → ℕ → List ℕ → Type 0
IsOldOr old at bytes index left = MayHold old index left ⊎ ((index ≡ at) × (left ≡ bytes))

-- the sector has what it might have had before, or zeros, which no one writes to the first sector
abbrev pub IsOldOrEmpty : History → ℕ → List ℕ → Type 0
IsOldOrEmpty old index left = MayHold old index left ⊎ ((0 < index) × (left ≡ zeros))
