-- The first sectors of a disk, as they were read.
use Rattle.std.specs.Prelude.{◌≡◌, ◌==◌, if◌then◌else◌, ℕ, List}
use Rattle.sector_disk.specs.Disk.{Image}
use Rattle.generations.specs.Sectors.{zeros}
use Rattle.disk_copy.specs.Shared.{IsOf}

-- an image that has these three sectors, and zeros after them
abbrev pub first_image : (format even odd : List ℕ) → Image
first_image format even odd at = if at == 0 then format else (if at == 1 then even else (if at == 2 then odd else zeros))

-- they are those of an image
pub record IsAsSeen (format even odd : List ℕ) (image : Image) : Type 0 where
  pub format_is : format ≡ image 0
  pub even_is : even ≡ image 1
  pub odd_is : odd ≡ image 2

-- each is that of an image of a moment of its own
pub record IsAsShared (format even odd : List ℕ) (images : ℕ → Image) (from to : ℕ) : Type 0 where
  pub format_of : IsOf images from to 0 format
  pub even_of : IsOf images from to 1 even
  pub odd_of : IsOf images from to 2 odd
