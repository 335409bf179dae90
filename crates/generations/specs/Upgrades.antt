-- A disk whose format is made one of the last version.
use Rattle.std.specs.Prelude.{◌≡◌, ◌≢◌, ◌⊎◌, ℕ}
use Rattle.sector_disk.specs.Disk.{History, Image, MayLeave, seen}
use Rattle.generations.specs.Sectors.{format_sector, sectors_from, IsFormat}
use Rattle.generations.specs.declared.sizes.TheConstants.{LAST_VERSION}

-- On a disk of this count of sectors the image is another one, which has a format, but for the format's sector: it is the
-- last version's, with as many sectors.
pub record IsUpgraded (count : ℕ) (before image : Image) : Type 0 where
  pub was : IsFormat count (before 0) (sectors_from (before 0))
  pub format : image 0 ≡ format_sector LAST_VERSION (sectors_from (before 0))
  pub others : (at : ℕ) → at ≢ 0 → image at ≡ before at

-- an image of an upgrade: one of before, or what a read gave with the format of the last version
abbrev pub Upgrades : ℕ → History → Image → Type 0
Upgrades count old image = MayLeave old image ⊎ IsUpgraded count (seen old) image
