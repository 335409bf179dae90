-- Why a map has no content for an area.
use Rattle.std.specs.Prelude.{◌≡◌, ◌<◌, ◌≤◌, ◌+◌, ◌^◌, ◌⊎◌, ℕ, List, [], ◌∷◌, ◌++◌, length, All, ⊤}
use Rattle.feature_store.specs.Store.{FeatureMap, snapshot}
use Rattle.feature_store.specs.Tiles.{AreTiles, AreTilesBelow, IsNextTile}
use Rattle.generations.specs.Areas.{sectors_of}
use Rattle.pm_build.specs.declared.fault.BuildFault.{BuildFault}
use Rattle.pm_build.specs.declared.fault.BuildFault.TheVariants as building
use Rattle.pm_build.specs.Bounded.{IsSize}
use Rattle.pm_build.specs.Building.{AreFew, AreTooMany}
use Rattle.pm_build.specs.Tiles.{Tile}
use Rattle.area_content.specs.Tiles.{IsArchiveOfMap, IsArchiveOfTiles}
use Rattle.area_content.specs.declared.fault.ContentFault.{ContentFault}
use Rattle.area_content.specs.declared.fault.ContentFault.TheVariants.{TooManyTiles, AreaFull, Memory}

-- the length of the content fits in an archive entry
abbrev pub IsShort : Tile → Type 0
IsShort t = length t.1 < 2 ^ 32

-- the short tiles of the map with ids below `from`, which need no more entries than an archive takes
pub record AreAdded (m : FeatureMap) (from : ℕ) (tiles : List Tile) : Type 0 where
  pub below : AreTilesBelow m from tiles
  pub short : All IsShort tiles
  pub few : AreFew tiles

-- An archive of exactly the tiles of the map, each as a tile is written, laid out as an archive is written, with this metadata, within its
-- bound. It is empty if the map has no tile.
pub record IsBuiltFor (m : FeatureMap) (metadata archive : List ℕ) : Type 0 where
  pub of_map : IsArchiveOfMap m metadata archive
  pub tiles : List Tile
  pub all : AreTiles m tiles
  pub short : All IsShort tiles
  pub of_tiles : IsArchiveOfTiles tiles metadata archive
  pub bounded : IsSize tiles metadata (length archive)

-- ---- faults

-- The first tile of the map, by its id, that isn't short has this many bytes. Those before it need no more entries than an archive takes.
pub record HasLongTile (m : FeatureMap) (size : ℕ) : Type 0 where
  pub from : ℕ
  pub before : List Tile
  pub added : AreAdded m from before
  pub long : Tile
  pub next : IsNextTile m from long
  pub above : 2 ^ 32 ≤ size
  pub size_is : size ≡ length long.1

-- The tiles of the map, by ascending id, up to one need more entries than an archive takes, and those before it don't. All are short. Then
-- all tiles of the map need more.
pub record HasManyTiles (m : FeatureMap) : Type 0 where
  pub from : ℕ
  pub before : List Tile
  pub added : AreAdded m from before
  pub last : Tile
  pub next : IsNextTile m from last
  pub short : IsShort last
  pub many : AreTooMany (before ++ last ∷ [])

-- The map needs this many sectors: those of its first tile that isn't short; or, if each is short, those of the snapshot and of the archive of
-- all tiles.
abbrev pub NeedsSectors : FeatureMap → (metadata : List ℕ) → (need : ℕ) → Type 0
NeedsSectors m metadata need =
    ((size : ℕ) × HasLongTile m size × (need ≡ sectors_of size))
    ⊎ ((archive : List ℕ) × IsBuiltFor m metadata archive × (need ≡ sectors_of (length (snapshot m)) + sectors_of (length archive)))

-- the map needs more sectors than the area has, all of which are free
pub record IsFull (m : FeatureMap) (metadata : List ℕ) (area need free : ℕ) : Type 0 where
  pub free_is : free ≡ area
  pub above : free < need
  pub needed : NeedsSectors m metadata need

-- the fault applies to this map, with this metadata and an area of this many sectors
abbrev pub IsContentFault : FeatureMap → (metadata : List ℕ) → (area : ℕ) → ContentFault → Type 0
IsContentFault m metadata area TooManyTiles = HasManyTiles m
IsContentFault m metadata area (AreaFull need free) = IsFull m metadata area need free
IsContentFault m metadata area Memory = ⊤

-- the fault reported if building the archive fails
abbrev pub told_as : BuildFault → ContentFault
told_as building.TooManyEntries = TooManyTiles
told_as building.Memory = Memory
