-- What the author of an edit saw, without where it lies in memory.
use Rattle.std.specs.Prelude.{ℕ, Option, option_map}
use Rattle.feature_model.specs.declared.seen.Seen.{Seen}
use Rattle.feature_model.specs.Data.{FeatureData, feature_data}

-- a number, and the feature that it had, or None
pub record SeenData : Type 0 where
  pub id : ℕ
  pub feature : Option FeatureData

abbrev pub seen_data : Seen → SeenData
seen_data s = record { id = s.id; feature = option_map feature_data s.feature }
