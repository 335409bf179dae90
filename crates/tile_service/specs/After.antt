-- The map after edits, as records have them.
use Rattle.std.specs.Prelude.{List, fold}
use Rattle.edit_text.specs.Recorded.{RecordedEdit}
use Rattle.feature_store.specs.Store.{FeatureMap, edited}

-- the map after one edit: after its changes, from the first to the last
abbrev pub made : FeatureMap → RecordedEdit → FeatureMap
made m e = edited m e.changes

-- the map after edits, from the first to the last
abbrev pub after : FeatureMap → List RecordedEdit → FeatureMap
after m es = fold made m es
