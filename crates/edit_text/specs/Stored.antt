-- Features that are kept as their texts.
use Rattle.std.specs.Prelude.{◌≡◌, ℕ, List, drop}
use Rattle.feature_model.specs.Data.{FeatureData, put}
use Rattle.feature_model.specs.Spelled.{spelled_change}
use Rattle.feature_model.specs.Types.{IsChange}
use Rattle.edit_text.specs.Trusted.{number_in, feature_of_text}

-- the number and the feature of a text
abbrev pub stored_in : List ℕ → ℕ × FeatureData
stored_in text = ((number_in (drop 1 text)).0, feature_of_text text)

-- the text is that of its number and its feature, which keep the limits
pub record IsStored (text : List ℕ) : Type 0 where
  pub edit : IsChange (put (stored_in text).0 (stored_in text).1)
  pub text_is : text ≡ spelled_change (put (stored_in text).0 (stored_in text).1)
