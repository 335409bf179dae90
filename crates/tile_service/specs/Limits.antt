-- The limits of a feature that is to be set, and of the changes of a batch, the reach of features too.
use Rattle.std.specs.Prelude.{◌≡◌, ◌⊎◌, ◌<◌, ◌≤◌, ℕ, All, Contains}
use Rattle.feature_model.specs.Data.{FeatureData, ChangeData, EditData, put, delete}
use Rattle.feature_model.specs.Limits.{IsAllowed, IsFirstFault, IsAllowedEdit, IsFirstEditFault}
use Rattle.feature_model.specs.declared.fault.EditFault.{EditFault}
use Rattle.feature_model.specs.declared.fault.EditFault.TheVariants.{Reach}
use Rattle.tile_cutter.specs.Covered.{reach_of}
use Rattle.tile_cutter.specs.declared.reach.TheConstants.{MAX_TILES}

-- the feature is within the limits for its id, its reach too
pub record KeepsLimits (id : ℕ) (f : FeatureData) : Type 0 where
  pub allowed : IsAllowed id f
  pub near : reach_of f ≤ MAX_TILES

-- the first limit that the feature breaks; its reach is the last one
abbrev pub BreaksLimit : ℕ → FeatureData → EditFault → Type 0
BreaksLimit id f fault = IsFirstFault id f fault ⊎ ((fault ≡ Reach) × IsAllowed id f × (MAX_TILES < reach_of f))

-- the change sets no feature that covers too many tiles
abbrev pub CoversFewTiles : ChangeData → Type 0
CoversFewTiles (put id f) = reach_of f ≤ MAX_TILES
CoversFewTiles (delete id) = Unit {0}

-- the changes are within the limits of a batch, the reach of each feature that they set too
pub record KeepsBatchLimits (cs : EditData) : Type 0 where
  pub allowed : IsAllowedEdit cs
  pub near : All CoversFewTiles cs

-- one of the changes sets a feature that covers too many tiles
abbrev pub HasFar : EditData → Type 0
HasFar cs = (id : ℕ) × (f : FeatureData) × Contains cs (put id f) × (MAX_TILES < reach_of f)

-- the first limit that the changes break; the reach of a feature is the last one
abbrev pub BreaksBatchLimit : EditData → EditFault → Type 0
BreaksBatchLimit cs fault = IsFirstEditFault cs fault ⊎ ((fault ≡ Reach) × IsAllowedEdit cs × HasFar cs)
