-- A map as of a moment, while it is edited.
use Rattle.std.specs.Prelude.{◌≡◌, ℕ, Bool, false, List, All, Option}
use Rattle.std.specs.BTreeMap.{is_at}
use Rattle.std.specs.Map.{lookup}
use Rattle.std.specs.Option.{IfSome, option_map, option_map_or}
use Rattle.std.specs.Ordering.{nat_cmp}
use Rattle.feature_model.specs.Data.{FeatureData}
use Rattle.number_map.specs.Blocks.{Ascends}
use Rattle.feature_store.specs.Inside.{Stored, stored_data}
use Rattle.feature_store.specs.Store.{FeatureMap, IsMap, feature_at}

-- what numbers had, those that had no feature among them
abbrev pub Kept : Type 0
Kept = List (ℕ × Option Stored)

-- what contracts see of a moment: the map then, what each number that was changed since had then, for how many more there is memory, and
-- whether an edit since was out of memory for it
pub record MomentView : Type 0 where
  pub features : FeatureMap
  pub kept : Kept
  pub spare : ℕ
  pub lost : Bool

-- what was kept of a number, or what it has now if nothing was kept
abbrev pub had_by : Option (Option Stored) → Option FeatureData → Option FeatureData
had_by kept now = option_map_or (option_map stored_data) kept now

-- what a number had, by what was kept and what it has now
abbrev pub had_at : Kept → ℕ → Option FeatureData → Option FeatureData
had_at kept n now = had_by (lookup (is_at (nat_cmp n)) kept) now

-- the numbers ascend, and the text of what was kept of a number gives it to that number
pub record AreKept (kept : Kept) : Type 0 where
  pub ascending : Ascends kept
  pub own : All (λ e. IfSome e.1 (λ s. s.0 ≡ e.0)) kept

-- `m` is the map now: unless it is lost, a number had at the moment what was kept of it, or what it has now if nothing was kept
pub record IsAsOf (t : MomentView) (m : FeatureMap) : Type 0 where
  pub is_map : IsMap t.features
  pub kept : AreKept t.kept
  pub each : (n : ℕ) → t.lost ≡ false → feature_at t.features n ≡ had_at t.kept n (feature_at m n)

-- ---- a moment that there may be

-- its map
abbrev pub moment_map : Option MomentView → Option FeatureMap
moment_map moment = option_map (λ t. t.features) moment

-- `m` is the map now
abbrev pub IsMomentOf : Option MomentView → FeatureMap → Type 0
IsMomentOf moment m = IfSome moment (λ t. IsAsOf t m)
