-- The reads of a disk that others write, as they are noted.
use Rattle.std.specs.Prelude.{◌≡◌, ◌+◌, ℕ, List, ⊤}
use Rattle.std.proofs.Common.{zero, suc}
use Rattle.sector_disk.specs.Disk.{Image}
use Rattle.disk_copy.specs.declared.watched.Reads.{Reads, Opened, Gave'}

-- how many there were
abbrev pub count_of : Reads → ℕ
count_of Opened = 0
count_of (Gave' at bytes marker before) = suc (count_of before)

-- the moment of a read, by its number from 1 on, and of the opening for 0
abbrev pub moment_of : (opened : ℕ) → (ℕ → ℕ) → ℕ → ℕ
moment_of opened waits zero = opened
moment_of opened waits (suc k) = moment_of opened waits k + waits k

-- each gave what the image of its moment has
abbrev pub AreOf : (ℕ → Image) → (opened : ℕ) → (ℕ → ℕ) → Reads → Type 0
AreOf images opened waits Opened = ⊤
AreOf images opened waits (Gave' at bytes marker before) =
    AreOf images opened waits before × (bytes.value ≡ images (moment_of opened waits (suc (count_of before))) at)

-- One read more than before. What it gave is that of its moment if the reads are of the images.
pub record HasNoted (old : Reads) (at : ℕ) (bytes : List ℕ) (new : Reads) : Type 0 where
  pub count_is : count_of new ≡ suc (count_of old)
  pub is_of : (images : ℕ → Image) (opened : ℕ) (waits : ℕ → ℕ) → AreOf images opened waits new
      → AreOf images opened waits old × (bytes ≡ images (moment_of opened waits (suc (count_of old))) at)
