-- The tile that is made and not added to its archive yet, if any.
use Rattle.std.specs.Prelude.{◌≡◌, ◌≤◌, ◌+◌, ◌*◌, ◌/◌, ◌^◌, ℕ, List, [], length, take, Option, Some, None, IfSome}
use Rattle.feature_store.specs.Store.{FeatureMap}
use Rattle.feature_store.specs.Tiles.{IsTile}
use Rattle.pm_build.specs.Tiles.{Tile}
use Rattle.pm_build.specs.declared.ahead.TheConstants.{AHEAD_BYTES}
use Rattle.area_content.specs.declared.collected.Waiting.{Waiting}
use Rattle.area_content.specs.Faults.{IsShort}

-- a short tile of the map, the last one with an id below `from`
pub record IsLastMade (m : FeatureMap) (from : ℕ) (t : Tile) : Type 0 where
  pub of_map : IsTile m t
  pub short : IsShort t
  pub last : from ≡ t.0 + 1

-- how many whole parts of a content of this length are put ahead: none if tiles are counted
abbrev pub parts_of : Option (List Tile) → (size : ℕ) → ℕ
parts_of None size = size / AHEAD_BYTES
parts_of (Some counted) size = 0

-- The waiting tile is the last one made. The parts of it that are still to be put ahead are bytes after those that are. If tiles are counted,
-- none is and none will be.
pub record IsWaiting (m : FeatureMap) (from : ℕ) (counted : Option (List Tile)) (w : Waiting) : Type 0 where
  pub last : IsLastMade m from (w.tile.0, w.tile.1.items)
  pub inside : w.put + w.parts * AHEAD_BYTES ≤ length w.tile.1.items
  pub none : IfSome counted (λ ts. (w.put ≡ 0) × (w.parts ≡ 0))

-- the bytes of the waiting tile that are put ahead
abbrev pub bytes_put : Option Waiting → List ℕ
bytes_put None = []
bytes_put (Some w) = take w.put w.tile.1.items

-- the least id that a tile which isn't added may have: that of the waiting tile, or `from` if none waits
abbrev pub least_id : Option Waiting → (from : ℕ) → ℕ
least_id None from = from
least_id (Some w) from = w.tile.0

-- a number that falls with each step, where `ahead` falls with each part that is made. A waiting tile is one step more, and one for each part
-- that is still to be put ahead, of which it has far fewer than 2^32.
abbrev pub steps_ahead : Option Waiting → (ahead : ℕ) → ℕ
steps_ahead None ahead = 2 ^ 32 * ahead
steps_ahead (Some w) ahead = 2 ^ 32 * ahead + w.parts + 1
