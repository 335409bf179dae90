-- The cached look-up, and the archive that it belongs to.
use Rattle.std.specs.Prelude.{◌≡◌, ◌≤◌, ℕ, List, Option, IfSome}
use Rattle.pm_archive.specs.Lookup.{LookupView, IsLookupOf}
use Rattle.published_tiles.specs.declared.place.ArchivePlace.{ArchivePlace}

-- the cached look-up of an archive, and where the archive is stored
pub record OpenedView : Type 0 where
  pub archive : ArchivePlace
  pub lookup : LookupView

-- if it belongs to the archive at this place, which has these bytes, it is a look-up of these bytes
abbrev pub IsOpenedOf : ArchivePlace → List ℕ → Option OpenedView → Type 0
IsOpenedOf place bytes opened = IfSome opened (λ o. o.archive ≡ place → IsLookupOf bytes o.lookup)

-- it doesn't belong to a later generation
abbrev pub IsOpenedUpTo : ℕ → Option OpenedView → Type 0
IsOpenedUpTo generation opened = IfSome opened (λ o. o.archive.generation ≤ generation)
