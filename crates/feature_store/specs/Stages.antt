-- How far a tile in the making is: the numbers of its map are listed, or it is made by parts.
use Rattle.std.specs.Prelude.{◌≡◌, ℕ, ◌<◌, ◌≤◌, ◌+◌, ◌-◌, length}
use Rattle.std.specs.Map.{keys_of}
use Rattle.feature_model.specs.declared.limits.TheConstants.{MAX_ZOOM}
use Rattle.hilbert_id.specs.declared.tile_at.TileAt.{TileAt}
use Rattle.feature_store.specs.declared.listing.Listing.{Listing}
use Rattle.feature_store.specs.declared.stage.Stage.{Stage}
use Rattle.feature_store.specs.declared.stage.Stage.TheVariants.{Lists, Parts}
use Rattle.feature_store.specs.Parts.{IsInMaking, NONE_IN_HAND, work_left}
use Rattle.feature_store.specs.Reading.{below}
use Rattle.feature_store.specs.Store.{FeatureMap}

-- the numbers of the map below the next one are listed
pub record IsListed (m : FeatureMap) (l : Listing) : Type 0 where
  pub zoom : l.at.z ≤ MAX_ZOOM
  pub numbers : l.numbers.items ≡ keys_of (below l.next m)

-- which tile it is
abbrev pub stage_at : Stage → TileAt
stage_at (Lists l) = l.at
stage_at (Parts p) = p.at

-- a number that falls with each part, and is 0 once the tile is whole: while numbers are listed it is above that of any tile that is made by parts
abbrev pub stage_left : FeatureMap → Stage → ℕ
stage_left m (Lists l) = NONE_IN_HAND + (length m - length l.numbers.items) + 1
stage_left m (Parts p) = work_left p

-- what is listed, or made, is that of the map
abbrev pub IsStage : FeatureMap → Stage → Type 0
IsStage m (Lists l) = IsListed m l
IsStage m (Parts p) = (work_left p < NONE_IN_HAND) × IsInMaking m p
