-- How a reader keeps what it has read.
use Rattle.std.specs.Prelude.{◌≡◌, ◌≤◌, map}
use Rattle.feature_model.specs.declared.limits.TheConstants.{NUMBER_END}
use Rattle.feature_store.specs.declared.moment_reader.MomentReader.TheInside.{Inside}
use Rattle.feature_store.specs.Indexed.{index_entry}
use Rattle.feature_store.specs.Inside.{entries_data}
use Rattle.feature_store.specs.Reading.{ReaderView, below}
use Rattle.feature_store.specs.Store.{IsMap, snapshot}

abbrev pub reader_view : Inside → ReaderView
reader_view r = record { features = entries_data r.features.value.entries; from = r.from }

-- the texts and the boxes are those of the features that are read
pub record IsReader (r : Inside) : Type 0 where
  pub is_map : IsMap (entries_data r.features.value.entries)
  pub text : r.text.items ≡ snapshot (below r.from (entries_data r.features.value.entries))
  pub boxes : r.boxes.items ≡ map index_entry (below r.from (entries_data r.features.value.entries))
  pub within : r.from ≤ NUMBER_END
