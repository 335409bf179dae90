-- The tiles of an archive in the making.
use Rattle.std.specs.Prelude.{◌≡◌, ℕ, List, All, IfSome}
use Rattle.feature_store.specs.Store.{FeatureMap}
use Rattle.feature_store.specs.Tiles.{AreTiles}
use Rattle.pm_build.specs.Tiles.{Tile}
use Rattle.area_content.specs.declared.collected.Collected.{Collected}
use Rattle.area_content.specs.Faults.{IsShort, AreAdded}
use Rattle.area_content.specs.Room.{AreBeyondIf, AreWithin, added_so_far}
use Rattle.area_content.specs.Waiting.{IsWaiting, bytes_put, least_id}

-- the tiles that were added so far
abbrev pub tiles_of : Collected → List Tile
tiles_of c = added_so_far c.kept.tiles c.counted

-- the tiles of the map with ids below `from` are added, and contents are kept of no more than may fit in the area
pub record AreCollected (m : FeatureMap) (metadata : List ℕ) (area from : ℕ) (c : Collected) : Type 0 where
  pub added : AreAdded m from (tiles_of c)
  pub within : AreWithin m metadata area c.kept.tiles
  pub beyond : AreBeyondIf m metadata area c.counted

-- The tiles of the map with ids below `from` are added, but for the last of them if it waits. Of that the first bytes are put ahead.
pub record AreGoing (m : FeatureMap) (metadata : List ℕ) (area from : ℕ) (c : Collected) : Type 0 where
  pub collected : AreCollected m metadata area (least_id c.waiting from) c
  pub waiting : IfSome c.waiting (IsWaiting m from c.counted)
  pub ahead : c.kept.ahead ≡ bytes_put c.waiting

-- all tiles of the map are added, and each is short
pub record AreMade (m : FeatureMap) (metadata : List ℕ) (area : ℕ) (c : Collected) : Type 0 where
  pub all : AreTiles m (tiles_of c)
  pub short : All IsShort (tiles_of c)
  pub beyond : AreBeyondIf m metadata area c.counted
