-- What a copy holds.
use Rattle.std.specs.Prelude.{◌≡◌, ◌≤◌, ℕ}
use Rattle.sector_disk.specs.Disk.{History}
use Rattle.tile_service.specs.Stored.{Stored, Keeps, last_of}

-- Every image that a crash may leave of a copy with this many sectors holds the state of a disk that was formatted with n, and this is the
-- number of its last edit.
pub record HoldsCopy (size n : ℕ) (stored : Stored) (last : ℕ) (copy : History) : Type 0 where
  pub keeps : Keeps size n stored copy
  pub last_is : last ≡ last_of stored

-- the same of the state of one of these moments
abbrev pub HoldsOneOf : (size n : ℕ) (states : ℕ → Stored) (from to last : ℕ) → History → Type 0
HoldsOneOf size n states from to last copy =
    (moment : ℕ) × (from ≤ moment) × (moment ≤ to) × HoldsCopy size n (states moment) last copy
