-- How the features of a map are kept with their boxes.
use Rattle.std.specs.Prelude.{◌≡◌, map}
use Rattle.feature_store.specs.declared.feature_boxes.FeatureBoxes.TheInside.{Inside}
use Rattle.feature_store.specs.Indexed.{index_entry}
use Rattle.feature_store.specs.Inside.{entries_data}
use Rattle.feature_store.specs.Store.{FeatureMap}

-- the map
abbrev pub boxes_view : Inside → FeatureMap
boxes_view b = entries_data b.features.value.entries

-- the boxes are those of its features
abbrev pub AreBoxes : Inside → Type 0
AreBoxes b = b.boxes.items ≡ map index_entry (entries_data b.features.value.entries)
