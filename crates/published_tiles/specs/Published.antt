-- What is kept for the archives of a disk.
use Rattle.std.specs.Prelude.{ℕ, List, Option}
use Rattle.published_tiles.specs.Opened.{OpenedView, IsOpenedOf, IsOpenedUpTo}
use Rattle.published_tiles.specs.Reading.{ReadingView, IsReadingOf, IsReadingUpTo}
use Rattle.published_tiles.specs.declared.place.ArchivePlace.{ArchivePlace}

-- what contracts see: the look-up of the archive read last, and the first bytes of a content that is read by parts
pub record PublishedView : Type 0 where
  pub opened : Option OpenedView
  pub reading : Option ReadingView

-- A look-up kept for the archive at this place is of its bytes, and the first bytes of a content are those of it. They belong to no later
-- generation, so a later archive starts with none.
pub record ArePublished (t : PublishedView) (place : ArchivePlace) (bytes : List ℕ) : Type 0 where
  pub opened : IsOpenedOf place bytes t.opened
  pub up_to : IsOpenedUpTo place.generation t.opened
  pub reading : IsReadingOf place bytes t.reading
  pub reading_up_to : IsReadingUpTo place.generation t.reading
