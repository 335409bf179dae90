-- How a draft keeps what it has summed up.
use Rattle.std.specs.Prelude.{◌≤◌}
use Rattle.feature_model.specs.declared.limits.TheConstants.{NUMBER_END}
use Rattle.feature_store.specs.Reading.{ReaderView, below}
use Rattle.feature_store.specs.Store.{IsMap}
use Rattle.map_metadata.specs.declared.draft.MetadataDraft.TheInside.{Inside}
use Rattle.map_metadata.specs.Summaries.{SumsUp}

abbrev pub draft_view : Inside → ReaderView
draft_view d = record { features = d.store.value.features; from = d.from }

-- the layers are those of the features that are read
pub record IsDraft (d : Inside) : Type 0 where
  pub is_map : IsMap d.store.value.features
  pub sums : SumsUp d.layers (below d.from d.store.value.features)
  pub within : d.from ≤ NUMBER_END
