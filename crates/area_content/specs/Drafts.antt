-- The content of an area in the making.
use Rattle.std.specs.Prelude.{◌≡◌, ℕ, List, length}
use Rattle.feature_store.specs.Store.{FeatureMap}
use Rattle.feature_store.specs.Tiles.{AreTilesBelow}
use Rattle.pm_build.specs.Building.{NeedEntries}
use Rattle.pm_build.specs.Tiles.{Tile}
use Rattle.area_content.specs.declared.draft.AddedTiles.{AddedTiles}
use Rattle.area_content.specs.declared.draft.Stage.{Stage}

-- what contracts see of a draft: the map of the moment, the metadata, how many sectors the area has, the least id that a tile which isn't
-- added may have, a number that falls with each step, and how far it is
pub record DraftView : Type 0 where
  pub features : FeatureMap
  pub metadata : List ℕ
  pub area : ℕ
  pub from : ℕ
  pub ahead : ℕ
  pub stage : Stage

-- so many tiles of the map have ids below `from`, and an archive of them has so many entries
pub record AreAddedBelow (m : FeatureMap) (from : ℕ) (added : AddedTiles) : Type 0 where
  pub tiles : List Tile
  pub below : AreTilesBelow m from tiles
  pub count_is : added.count ≡ length tiles
  pub entries_are : NeedEntries tiles added.entries

-- the same up to some id
abbrev pub HasAdded : FeatureMap → AddedTiles → Type 0
HasAdded m added = (from : ℕ) × AreAddedBelow m from added
