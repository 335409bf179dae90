-- What the first sectors of a disk say.
use Rattle.std.specs.Prelude.{◌≡◌, ◌⊎◌, ◌<◌, ◌≤◌, ◌+◌, ℕ}
use Rattle.sector_disk.specs.Disk.{Image}
use Rattle.generations.specs.Areas.{journal_sectors}
use Rattle.generations.specs.Sectors.{format_sector, root_sector, zeros, HasMark, IsFormat, IsRootOf, IsNoRoot, IsBad}
use Rattle.generations.specs.declared.root.Root.{Root}
use Rattle.generations.specs.declared.sizes.TheConstants.{JOURNAL_START}
use Rattle.generations.specs.declared.fault.StoreFault.{StoreFault}
use Rattle.generations.specs.declared.fault.StoreFault.TheVariants.{NotFormatted, TooSmall, Damaged, Device, Memory}
use Rattle.generations.specs.declared.fault.What.TheVariants.{Size, RootSector, Snapshot, Journal, Text}

-- the disk doesn't begin with the mark of a format
abbrev pub HasNoMark : Image → Type 0
HasNoMark image = HasMark (image 0) → ⊥

-- one of the two sectors has this root
abbrev pub HasRoot : ℕ → Image → Root → Type 0
HasRoot n image root = IsRootOf n 0 (image 1) root ⊎ IsRootOf n 1 (image 2) root

-- the sector has zeros or a root
abbrev pub IsSound : ℕ → ℕ → Image → ℕ → Type 0
IsSound n parity image at = IsNoRoot (image at) ⊎ ((root : Root) × IsRootOf n parity (image at) root)

-- The disk has a format and no bad sector of a root, and of its roots this one has the greatest generation.
pub record LiveRoot (count : ℕ) (image : Image) (n : ℕ) (root : Root) : Type 0 where
  pub format : IsFormat count (image 0) n
  pub even : IsSound n 0 image 1
  pub odd : IsSound n 1 image 2
  pub stands : HasRoot n image root
  pub greatest : (other : Root) → HasRoot n image other → other.generation ≤ root.generation

-- Why a disk of this count of sectors has no live root: there is no mark, or no format after it, or a bad sector or no root.
abbrev pub IsFaultOf : ℕ → Image → StoreFault → Type 0
IsFaultOf count image NotFormatted = (count ≡ 0) ⊎ HasNoMark image
IsFaultOf count image (Damaged Size) = (0 < count) × HasMark (image 0) × ((n : ℕ) → IsFormat count (image 0) n → ⊥)
IsFaultOf count image (Damaged RootSector) =
    (n : ℕ) × IsFormat count (image 0) n × (IsBad n 0 (image 1) ⊎ IsBad n 1 (image 2) ⊎ (IsNoRoot (image 1) × IsNoRoot (image 2)))
IsFaultOf count image (Damaged Snapshot) = ⊥
IsFaultOf count image (Damaged Journal) = ⊥
IsFaultOf count image (Damaged Text) = ⊥
IsFaultOf count image TooSmall = ⊥
IsFaultOf count image Device = ⊥
IsFaultOf count image Memory = ⊥

-- the root of a disk that nothing was written to since its format
abbrev pub first_root : Root
first_root = record { generation = 0; edits = 0; journal_at = 0; snapshot_len = 0; archive_len = 0 }

-- The disk was just formatted in a version with n sectors: it has the first root, and the other sector of a root and the journal are empty.
pub record IsFresh (version n : ℕ) (image : Image) : Type 0 where
  pub format : image 0 ≡ format_sector version n
  pub root : image 1 ≡ root_sector first_root
  pub empty : (at : ℕ) → 2 ≤ at → at < JOURNAL_START + journal_sectors n → image at ≡ zeros
