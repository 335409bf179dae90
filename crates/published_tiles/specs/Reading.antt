-- The first bytes of a content, and the archive that they belong to.
use Rattle.std.specs.Prelude.{◌≡◌, ◌≤◌, ◌+◌, ◌⊎◌, ℕ, List, length, slice_range, Option, None, IfSome}
use Rattle.published_tiles.specs.declared.place.ArchivePlace.{ArchivePlace}

-- bytes that were read of an archive from an offset on, and where the archive is stored
pub record ReadingView : Type 0 where
  pub archive : ArchivePlace
  pub offset : ℕ
  pub bytes : List ℕ

-- the bytes are those of the archive from this offset on
abbrev pub AreFrom : List ℕ → ℕ → List ℕ → Type 0
AreFrom bytes offset found = found ≡ slice_range bytes offset (offset + length found)

-- if it belongs to the archive at this place, which has these bytes, its bytes are these from its offset on
abbrev pub IsReadingOf : ArchivePlace → List ℕ → Option ReadingView → Type 0
IsReadingOf place bytes reading = IfSome reading (λ r. r.archive ≡ place → AreFrom bytes r.offset r.bytes)

-- it doesn't belong to a later generation
abbrev pub IsReadingUpTo : ℕ → Option ReadingView → Type 0
IsReadingUpTo generation reading = IfSome reading (λ r. r.archive.generation ≤ generation)

-- it is the same, or nothing is kept
abbrev pub StaysOrNone : (old new : Option ReadingView) → Type 0
StaysOrNone old new = (new ≡ old) ⊎ (new ≡ None)
