-- The features of a map as of a moment, read by ascending number.
use Rattle.std.specs.Prelude.{◌≤◌, ℕ, nat_lt, if◌then◌else◌, [], ◌∷◌, Option, Some, None}
use Rattle.std.specs.List.{filter}
use Rattle.std.specs.Option.{option_map_or}
use Rattle.feature_model.specs.Data.{FeatureData}
use Rattle.feature_model.specs.declared.limits.TheConstants.{NUMBER_END}
use Rattle.feature_store.specs.Inside.{Stored}
use Rattle.feature_store.specs.Store.{FeatureMap}

-- the features with numbers below this one
unfoldable pub below : ℕ → FeatureMap → FeatureMap
below n m = filter (λ e. nat_lt e.0 n) m

-- a number with the feature that it had, or nothing if it had none
abbrev pub entry_of : ℕ → Option FeatureData → FeatureMap
entry_of n had = option_map_or (λ f. (n, f) ∷ []) had []

-- what a text gives a feature to, or nothing if there is no text
abbrev pub stored_in : Option Stored → FeatureMap
stored_in stored = option_map_or (λ s. s ∷ []) stored []

-- the nearer of two entries, one of what was kept of numbers and one of what numbers have, as what the number had
abbrev pub nearer : Option (ℕ × Option Stored) → Option (ℕ × Stored) → Option (ℕ × Option Stored)
nearer None None = None
nearer None (Some e) = Some (e.0, Some e.1)
nearer (Some k) None = Some k
nearer (Some k) (Some e) = if nat_lt e.0 k.0 then Some (e.0, Some e.1) else Some k

-- what contracts see of a reader: the map, and the number below which its features are read
pub record ReaderView : Type 0 where
  pub features : FeatureMap
  pub from : ℕ

-- all features are read
abbrev pub IsRead : ReaderView → Type 0
IsRead r = NUMBER_END ≤ r.from
