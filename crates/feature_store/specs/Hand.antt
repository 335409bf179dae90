-- A tile of the map as it is now, in the making.
use Rattle.std.specs.Prelude.{ℕ}
use Rattle.hilbert_id.specs.declared.tile_at.TileAt.{TileAt}
use Rattle.feature_store.specs.Store.{FeatureMap}

-- what contracts see of it: the map, the tile, and a number that falls with each part and is 0 once it is whole
pub record HandView : Type 0 where
  pub features : FeatureMap
  pub at : TileAt
  pub left : ℕ
