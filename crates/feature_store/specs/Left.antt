-- The tiles of a map that are left to make.
use Rattle.std.specs.Prelude.{ℕ, ◌+◌, ◌-◌, ◌*◌, ◌^◌, ◌<◌, ◌≤◌, List, [], length, All, Contains, Option, Some, None}
use Rattle.std.specs.List.Sorted.{IsStrictlySortedBy}
use Rattle.std.specs.Map.{keys_of}
use Rattle.std.specs.Ordering.{nat_cmp}
use Rattle.feature_model.specs.declared.limits.TheConstants.{MAX_ZOOM}
use Rattle.hilbert_id.specs.Curve.{IsTileId, first_id}
use Rattle.tile_walk.specs.Boxes.{IsTileOf, numbers_at}
use Rattle.tile_walk.specs.Walk.{WalkView}
use Rattle.feature_store.specs.declared.tiles_left.TilesLeft.{TilesLeft}
use Rattle.feature_store.specs.Boxes.{boxes_at, read_of}
use Rattle.feature_store.specs.Store.{FeatureMap}

-- the id of a tile of a zoom below `end`, and the numbers of the features whose boxes have it
abbrev pub IsTileBelow : FeatureMap → (end : ℕ) → ℕ × List ℕ → Type 0
IsTileBelow m end t = (zoom : ℕ) × (zoom < end) × IsTileOf zoom (boxes_at zoom m) t

-- all such tiles with an id from `from` on, ascending by id; `from` is not above the first id of zoom `end`
pub record AreLeft (m : FeatureMap) (end from : ℕ) (ts : List (ℕ × List ℕ)) : Type 0 where
  pub ascending : IsStrictlySortedBy nat_cmp (keys_of ts)
  pub each : All (λ t. (from ≤ t.0) × IsTileBelow m end t) ts
  pub every : (zoom column row id : ℕ) → zoom < end → IsTileId zoom column row id → from ≤ id → 0 < length (numbers_at (boxes_at zoom m) column row)
      → Contains (keys_of ts) id
  pub reach : from ≤ first_id end

-- where the first tiles are those left from some id on, of the zooms below `end`, the new ones are too, of the zooms below `new_end`
abbrev pub AllStay : FeatureMap → (end : ℕ) (old : List (ℕ × List ℕ)) (new_end : ℕ) (new : List (ℕ × List ℕ)) → Type 0
AllStay m end old new_end new = (from : ℕ) → AreLeft m end from old → AreLeft m new_end from new

-- the tiles that are left of a walk, and none where there is no walk
abbrev pub left_of : Option WalkView → List (ℕ × List ℕ)
left_of None = []
left_of (Some walk) = walk.left

-- a number that falls with each step: so many zooms aren't begun, and so much is left of the walk, or was read of the next zoom
unfoldable pub stage_in : (zoom : ℕ) → Option WalkView → (read : ℕ) → ℕ
stage_in zoom None read = (MAX_ZOOM + 1 - zoom) * 2 ^ 129 - read
stage_in zoom (Some walk) read = (MAX_ZOOM + 1 - zoom) * 2 ^ 129 + walk.ahead

abbrev pub stage_of : TilesLeft → ℕ
stage_of l = stage_in l.zoom l.walk (read_of l.first)
