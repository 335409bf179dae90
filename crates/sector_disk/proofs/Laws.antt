-- Laws of disks, for the crates above.
use Rattle.std.proofs.Common.{◌≡◌, ◌⊎◌, ◌≤◌, ℕ, List, refl, Result}
use Rattle.std.specs.Prelude.{◌↔◌}
use Rattle.std.specs.List.{IsAmong}
use Rattle.sector_disk.specs.Crash.{settled, written_since, chosen, IsChoice}
use Rattle.sector_disk.specs.Disk.{History, Image, seen, MayHold, MayLeave, moment, LeftSince, Writes, Syncs}
use Rattle.sector_disk.specs.Disk.History.{synced}
use Rattle.sector_disk.specs.Moments.{Follows}
use Rattle.sector_disk.specs.declared.disk.DiskFault.{DiskFault}
use Rattle.sector_disk.proofs.Choices.{some_choice}
use Rattle.sector_disk.proofs.Chosen.{chosen_may, held_is, is_held}
use Rattle.sector_disk.proofs.History.{seen_may, any_write, any_sync}
use Rattle.sector_disk.proofs.Moments.{write_follows, sync_follows, follows_on, goes_by}

-- ---- what a crash may leave

-- What a read gives is one of the images that a crash may leave.
pub seen_is_left : (history : History) → MayLeave history (seen history)
seen_is_left = seen_may

-- What a crash may leave in a sector, by itself, is its content at the last sync, or any that was written to it since.
pub held : (history : History) (at : ℕ) (left : List ℕ)
    → MayHold history at left ↔ ((left ≡ settled history at) ⊎ IsAmong (written_since history at) left)
held history at left = (held_is history at left, is_held history at left)

-- After a sync that succeeded there is one image, what a read gives.
pub synced_leaves_one : (history : History) (image : Image) → MayLeave (synced history) image ↔ ((at : ℕ) → image at ≡ seen (synced history) at)
synced_leaves_one history image = (λ may. may, λ is. is)

-- That is what it gave before the sync.
pub synced_is_seen : (history : History) → seen (synced history) ≡ seen history
synced_is_seen history = refl

-- ---- runs of calls

-- The history after a write follows from the one before it, whether the write was reported as done or as failed.
pub follows_write : (result : Result (Unit {0}) DiskFault) (at : ℕ) (bytes : List ℕ) (old new : History)
    → Writes result at bytes old new → Follows old new
follows_write result at bytes old new writes = write_follows at bytes old new (any_write result at bytes old new writes)

-- The same of a sync.
pub follows_sync : (result : Result (Unit {0}) DiskFault) (old new : History) → Syncs result old new → Follows old new
follows_sync result old new syncs = sync_follows old new (any_sync result old new syncs)

-- What follows from a history that follows from the first follows from the first.
pub follows_run : (old between new : History) → Follows old between → Follows between new → Follows old new
follows_run = follows_on

-- After calls, the images since an earlier moment are those before the calls, and those of the calls.
pub images_go_on : (old new : History) → Follows old new → (earlier : ℕ) → earlier ≤ moment old → (image : Image)
    → LeftSince new earlier image ↔ (LeftSince old earlier image ⊎ LeftSince new (moment old) image)
images_go_on = goes_by

-- ---- the choice for a crash of a disk in memory

-- What is chosen is one of the images that a crash may leave.
pub chosen_is_left : (history : History) (choice : List ℕ) → MayLeave history (chosen history choice)
chosen_is_left = chosen_may

-- Each image that a crash may leave is one that some choice gives, on a disk of any number of sectors.
pub left_is_chosen : (history : History) (image : Image) → MayLeave history image
    → (count : ℕ) → (choice : List ℕ) × IsChoice history count image choice
left_is_chosen = some_choice
