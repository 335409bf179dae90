-- What is kept of tiles that are counted.
use Rattle.std.specs.Prelude.{◌≡◌, ◌<◌, ℕ, List, length, Option, Some, None}
use Rattle.pm_build.specs.declared.counter.ArchiveCounter.TheInside.{Inside}
use Rattle.pm_build.specs.Different.{content_at, contents_of, offset_from}
use Rattle.pm_build.specs.Joined.{IsLast}
use Rattle.pm_build.specs.Kept.{AreKept, tiles_with}
use Rattle.pm_build.specs.Tiles.{Tile}

-- the tiles of a counter
abbrev pub tiles_counted : Inside → List Tile
tiles_counted b = tiles_with b.contents b.runs.items

-- beside what a builder keeps, without bytes, the content of the last tile
pub record IsCounter (b : Inside) : Type 0 where
  pub kept : AreKept b.contents b.runs.items b.addressed
  pub last : IsLast b.contents.contents b.runs.items b.last.items

-- the place of a content that is equal to this one, and none if no content is
abbrev pub IsPlaceAmong : List (List ℕ) → List ℕ → Option ℕ → Type 0
IsPlaceAmong contents content None = offset_from 0 contents content ≡ None
IsPlaceAmong contents content (Some place) = (place < length contents) × (content_at contents place ≡ content)

-- the same among the different contents of tiles
abbrev pub IsPlaceOf : List Tile → List ℕ → Option ℕ → Type 0
IsPlaceOf tiles content place = IsPlaceAmong (contents_of tiles) content place
