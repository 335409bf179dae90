-- A tile in the making.
use Rattle.std.specs.Prelude.{◌≡◌, ℕ, List, ◌<◌, ◌≤◌, ◌+◌, ◌-◌, ◌*◌, ◌^◌, length, take, Option, Some, None, IfSome, nat_lt, if◌then◌else◌, ⊤}
use Rattle.feature_model.specs.declared.limits.TheConstants.{MAX_ZOOM}
use Rattle.feature_store.specs.Chosen.{chosen}
use Rattle.feature_store.specs.declared.all_tiles.Begun.{Begun}
use Rattle.feature_store.specs.declared.all_tiles.Begun.TheVariants.{Hand, Part, Over}
use Rattle.feature_store.specs.declared.tile_end.TileEnd.{TileEnd}
use Rattle.feature_store.specs.declared.tile_parts.TheConstants.{SHORT_NUMBERS}
use Rattle.feature_store.specs.declared.tile_parts.TileParts.{TileParts}
use Rattle.feature_store.specs.Ends.{Ends, END_WORK, end_work}
use Rattle.feature_store.specs.Gathered.{Gathers}
use Rattle.feature_store.specs.Indexed.{ShowsAll}
use Rattle.feature_store.specs.Layers.{cuts_of}
use Rattle.feature_store.specs.Store.{FeatureMap}
use Rattle.feature_store.specs.Tiles.{ShowsNothing}
use Rattle.hilbert_id.specs.Curve.{IsTileId}

-- the numbers whose features are added
abbrev pub added : TileParts → List ℕ
added p = take (length p.numbers.items - p.left) p.numbers.items

-- A tile of the map in the making: its numbers are those that it needs, and what is gathered is what it shows of the features that are added, or its
-- layers are being written.
pub record IsInMaking (m : FeatureMap) (p : TileParts) : Type 0 where
  pub zoom : p.at.z ≤ MAX_ZOOM
  pub shown : ShowsAll m p.at.z p.at.x p.at.y p.numbers.items
  pub left : p.left ≤ length p.numbers.items
  pub gathers : p.end ≡ None → Gathers p.gathered (λ name. cuts_of (chosen m (added p)) name p.at.z p.at.x p.at.y)
  pub ends : IfSome p.end (Ends m p.at.z p.at.x p.at.y)

-- how much is left of a tile of this many numbers, of which some are left to add, and whose layers are perhaps being written
abbrev pub work_of : Option TileEnd → (numbers left : ℕ) → ℕ
work_of None numbers left = if nat_lt SHORT_NUMBERS numbers then END_WORK + left else left
work_of (Some e) numbers left = end_work e

-- a number that falls with each part of a tile, and is 0 once it is whole
abbrev pub work_left : TileParts → ℕ
work_left p = work_of p.end (length p.numbers.items) p.left

-- more than is left of any tile
abbrev pub NONE_IN_HAND : ℕ
NONE_IN_HAND = 2 ^ 132

-- a tile of the map in the making, and its id
pub record IsInHand (m : FeatureMap) (hand : ℕ × TileParts) : Type 0 where
  pub id : IsTileId hand.1.at.z hand.1.at.x hand.1.at.y hand.0
  pub few : work_left hand.1 < NONE_IN_HAND
  pub making : IsInMaking m hand.1

-- it is the first tile from `from` on that may show something of the map
pub record IsBegun (m : FeatureMap) (from : ℕ) (hand : ℕ × TileParts) : Type 0 where
  pub here : from ≤ hand.0
  pub between : ShowsNothing m from hand.0
  pub tile : IsInHand m hand

-- ---- what there is to make next

-- if it is a tile, this is true of it
abbrev pub IfHand : (ℕ × TileParts → Type 0) → Begun → Type 0
IfHand P (Hand hand) = P hand
IfHand P Part = ⊤
IfHand P Over = ⊤

-- nothing is left to make, or the number that counts what is ahead has fallen
abbrev pub IsNearer : (old new : ℕ) → Begun → Type 0
IsNearer old new (Hand hand) = new < old
IsNearer old new Part = new < old
IsNearer old new Over = ⊤

-- it is such a number while no tile is in hand
abbrev pub IsNoneInHand : ℕ → Type 0
IsNoneInHand ahead = (stage : ℕ) × (ahead ≡ stage * NONE_IN_HAND)
