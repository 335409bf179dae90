-- How a tile in the making is kept.
use Rattle.feature_store.specs.declared.tile_in_hand.TileInHand.TheInside.{Inside}
use Rattle.feature_store.specs.Hand.{HandView}
use Rattle.feature_store.specs.Inside.{entries_data}
use Rattle.feature_store.specs.Stages.{IsStage, stage_at, stage_left}
use Rattle.feature_store.specs.Store.{IsMap}

abbrev pub hand_view : Inside → HandView
hand_view h = record {
  features = entries_data h.features.value.entries;
  at = stage_at h.stage;
  left = stage_left (entries_data h.features.value.entries) h.stage;
}

-- its stage is one of its map
pub record IsHand (h : Inside) : Type 0 where
  pub is_map : IsMap (entries_data h.features.value.entries)
  pub stage : IsStage (entries_data h.features.value.entries) h.stage
