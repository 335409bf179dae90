-- A root that is made the one that counts.
use Rattle.std.specs.Prelude.{◌≡◌, ◌≢◌, ◌⊎◌, ◌+◌, ◌%◌, ℕ}
use Rattle.sector_disk.specs.Disk.{History, Image, MayLeave, seen}
use Rattle.generations.specs.Sectors.{root_sector}
use Rattle.generations.specs.declared.root.Root.{Root}

-- the sector of the root of a generation
abbrev pub root_at : ℕ → ℕ
root_at generation = 1 + generation % 2

-- The image is another one but for this root in its sector.
pub record WithRoot (root : Root) (before image : Image) : Type 0 where
  pub stands : image (root_at root.generation) ≡ root_sector root
  pub others : (at : ℕ) → at ≢ root_at root.generation → image at ≡ before at

-- an image of an installation: one of before, or what a read gave and the root
abbrev pub Installs : Root → History → Image → Type 0
Installs root old image = MayLeave old image ⊎ WithRoot root (seen old) image
