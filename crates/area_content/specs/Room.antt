-- Which tiles have no room in an area.
use Rattle.pm_header.specs.declared.header.TheConstants.{HEADER_BYTES}
use Rattle.std.specs.Prelude.{◌≡◌, ◌≢◌, ◌<◌, ◌≤◌, ◌+◌, ◌⊎◌, ℕ, List, [], length, Option, Some, None, ⊤}
use Rattle.std.specs.List.{concat}
use Rattle.feature_store.specs.Store.{FeatureMap, snapshot}
use Rattle.generations.specs.Areas.{sectors_of}
use Rattle.pm_build.specs.Different.{contents_of}
use Rattle.pm_build.specs.Tiles.{Tile}

-- the number of sectors that the snapshot of the map takes, and an archive of these tiles at least: a header, the metadata, and each
-- different content once
abbrev pub least_sectors : FeatureMap → (metadata : List ℕ) → List Tile → ℕ
least_sectors m metadata tiles = sectors_of (length (snapshot m)) + sectors_of (HEADER_BYTES + length metadata + length (concat (contents_of tiles)))

-- there are no tiles, or with them the snapshot and an archive may fit in an area of this many sectors
abbrev pub AreWithin : FeatureMap → (metadata : List ℕ) → (area : ℕ) → List Tile → Type 0
AreWithin m metadata area tiles = (tiles ≡ []) ⊎ (least_sectors m metadata tiles ≤ area)

-- there are tiles, and with them the snapshot and an archive don't fit in an area of this many sectors
pub record AreBeyond (m : FeatureMap) (metadata : List ℕ) (area : ℕ) (tiles : List Tile) : Type 0 where
  pub some : tiles ≢ []
  pub above : area < least_sectors m metadata tiles

-- the same of those that are counted, if any are
abbrev pub AreBeyondIf : FeatureMap → (metadata : List ℕ) → (area : ℕ) → Option (List Tile) → Type 0
AreBeyondIf m metadata area None = ⊤
AreBeyondIf m metadata area (Some counted) = AreBeyond m metadata area counted

-- those that are counted, or, where none are, those that are kept
abbrev pub added_so_far : List Tile → Option (List Tile) → List Tile
added_so_far kept None = kept
added_so_far kept (Some counted) = counted
