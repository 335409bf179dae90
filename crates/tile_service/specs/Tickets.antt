-- An archive that is read between other calls: its place is a ticket for it.
use Rattle.std.specs.Prelude.{◌≡◌, ◌≤◌, ◌+◌, ℕ}
use Rattle.sector_disk.specs.Disk.{History}
use Rattle.generations.specs.Areas.{IsSize}
use Rattle.published_tiles.specs.declared.place.ArchivePlace.{ArchivePlace}
use Rattle.tile_service.specs.Service.{ServiceView, KeepsArea, IsPlaceIn}

-- A ticket for a place was taken when the service was in its first state. No step has written since into the area of oldest or a later
-- generation, up to that of now: if the ticket's is one of them, an honest disk has all of its area that it had then.
pub record IsHeld {D : Type 0} (honest : D → Type 0) (history : D → History) (place : ArchivePlace) (first : ServiceView D) (oldest : ℕ)
    (now : ServiceView D) : Type 0 where
  pub size : now.size ≡ first.size
  pub was_honest : honest now.disk → honest first.disk
  pub past : place.generation ≤ now.generation
  pub least : oldest ≤ now.generation
  pub keeps : oldest ≤ place.generation → KeepsArea honest history place.generation first now

-- On a disk of this size, where no step has written since into the area of a generation from oldest on: this many bytes of a ticket's archive
-- from an offset on are there.
pub record IsThere (size oldest : ℕ) (ticket : ArchivePlace) (at count : ℕ) : Type 0 where
  pub sized : IsSize size
  pub kept : oldest ≤ ticket.generation
  pub inside : IsPlaceIn size ticket
  pub within : at + count ≤ ticket.len
