-- How a walk over the tiles of a map is kept.
use Rattle.std.specs.Prelude.{◌≡◌, ◌+◌, ◌*◌, ◌<◌, ◌≤◌, ℕ, Option, Some, None, IfSome}
use Rattle.feature_model.specs.declared.limits.TheConstants.{MAX_ZOOM}
use Rattle.feature_store.specs.declared.all_tiles.Tiles.TheInside.{Inside}
use Rattle.feature_store.specs.declared.tile_parts.TileParts.{TileParts}
use Rattle.feature_store.specs.Boxes.{AreFirst}
use Rattle.feature_store.specs.Left.{AreLeft, left_of, stage_of}
use Rattle.feature_store.specs.Parts.{IsInHand, NONE_IN_HAND, work_left}
use Rattle.feature_store.specs.Store.{IsMap}
use Rattle.feature_store.specs.Tiles.{TilesView}

-- the least id that the next tile may have: that of the tile in hand, or else the least of those that aren't begun
abbrev pub least_id : Option (ℕ × TileParts) → ℕ → ℕ
least_id None from = from
least_id (Some hand) from = hand.0

-- how much of the tile in hand is left
abbrev pub left_in : Option (ℕ × TileParts) → ℕ
left_in None = 0
left_in (Some hand) = work_left hand.1

-- a number that falls with each step to the next tile, and between them with each part of the tile in hand
unfoldable pub ahead_of : (stage left : ℕ) → ℕ
ahead_of stage left = stage * NONE_IN_HAND + left

-- the map, and how far the walk is
abbrev pub tiles_view : Inside → TilesView
tiles_view w = record { features = w.map; from = least_id w.hand w.from; ahead = ahead_of (stage_of w.left) (left_in w.hand) }

-- The tiles that aren't begun are all that are left of the zooms that were begun. The tile in hand is of the map, and the last before them.
pub record IsWalk (w : Inside) : Type 0 where
  pub is_map : IsMap w.map
  pub zoom : w.left.zoom ≤ MAX_ZOOM + 1
  pub first : IfSome w.left.first (AreFirst w.left.zoom w.map)
  pub left : AreLeft w.map w.left.zoom w.from (left_of w.left.walk)
  pub hand : IfSome w.hand (λ hand. (w.from ≡ hand.0 + 1) × (0 < work_left hand.1) × IsInHand w.map hand)
