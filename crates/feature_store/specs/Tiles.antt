-- All tiles of a map.
use Rattle.std.specs.Prelude.{◌≡◌, ◌<◌, ◌≤◌, [], ◌∷◌, ℕ, List, length, All, Option, Some, None, ⊤}
use Rattle.std.specs.List.{Contains}
use Rattle.std.specs.List.Sorted.{IsStrictlySortedBy}
use Rattle.std.specs.Map.{keys_of}
use Rattle.std.specs.Ordering.{nat_cmp}
use Rattle.feature_model.specs.declared.limits.TheConstants.{MAX_ZOOM}
use Rattle.hilbert_id.specs.Curve.{IsTileId}
use Rattle.mvt_layer.specs.Tile.{LayerView}
use Rattle.mvt_write.specs.Written.{written}
use Rattle.feature_store.specs.declared.all_tiles.Making.{Making}
use Rattle.feature_store.specs.declared.all_tiles.Making.TheVariants.{Part, Whole, Over}
use Rattle.feature_store.specs.Layers.{layers}
use Rattle.feature_store.specs.Store.{FeatureMap}

-- the id of a tile that shows something of the map, and what is written of its layers
abbrev pub IsTile : FeatureMap → ℕ × List ℕ → Type 0
IsTile m t = (z : ℕ) × (x : ℕ) × (y : ℕ) × IsTileId z x y t.0 × (0 < length (layers m z x y)) × (t.1 ≡ written (layers m z x y))

-- all tiles that show something of the map, ascending by id
pub record AreTiles (m : FeatureMap) (ts : List (ℕ × List ℕ)) : Type 0 where
  pub ascending : IsStrictlySortedBy nat_cmp (keys_of ts)
  pub each : All (IsTile m) ts
  pub every : (z x y id : ℕ) → IsTileId z x y id → 0 < length (layers m z x y) → Contains (keys_of ts) id

-- all tiles of the map with a lower id, ascending by id
pub record AreTilesBelow (m : FeatureMap) (end : ℕ) (ts : List (ℕ × List ℕ)) : Type 0 where
  pub ascending : IsStrictlySortedBy nat_cmp (keys_of ts)
  pub each : All (λ t. (t.0 < end) × IsTile m t) ts
  pub every : (z x y id : ℕ) → IsTileId z x y id → id < end → 0 < length (layers m z x y) → Contains (keys_of ts) id

-- ---- one after the other

-- what contracts see of a walk over the tiles of a map: the map, the least id that the next tile may have, and a number that falls with each
-- part that is made
pub record TilesView : Type 0 where
  pub features : FeatureMap
  pub from : ℕ
  pub ahead : ℕ

-- if a tile was made, this is true of its id and its bytes
abbrev pub IfTile : (ℕ × List ℕ → Type 0) → Making → Type 0
IfTile P Part = ⊤
IfTile P (Whole t) = P (t.0, t.1.items)
IfTile P Over = ⊤

-- nothing is left to make of a walk, or `ahead` has fallen
abbrev pub GoesOn : (old new : TilesView) → Making → Type 0
GoesOn old new Part = new.ahead < old.ahead
GoesOn old new (Whole t) = new.ahead < old.ahead
GoesOn old new Over = ⊤

-- no tile with an id from `from` on and below `end` shows anything of the map
abbrev pub ShowsNothing : FeatureMap → (from end : ℕ) → Type 0
ShowsNothing m from end = (z x y id : ℕ) → IsTileId z x y id → from ≤ id → id < end → layers m z x y ≡ []

-- no tile with an id from `from` on shows anything of the map
abbrev pub ShowsNothingFrom : FeatureMap → (from : ℕ) → Type 0
ShowsNothingFrom m from = (z x y id : ℕ) → IsTileId z x y id → from ≤ id → layers m z x y ≡ []

-- the first tile, by its id from `from` on, that shows something of the map
pub record IsNextTile (m : FeatureMap) (from : ℕ) (t : ℕ × List ℕ) : Type 0 where
  pub here : from ≤ t.0
  pub tile : IsTile m t
  pub between : ShowsNothing m from t.0

-- the id is that of a tile of a zoom that a map has
abbrev pub HasPlace : ℕ → Type 0
HasPlace id = (z : ℕ) × (x : ℕ) × (y : ℕ) × (z ≤ MAX_ZOOM) × IsTileId z x y id

-- the bytes of a tile with these layers, and none where there are no layers
abbrev pub tile_bytes : List LayerView → Option (List ℕ)
tile_bytes [] = None
tile_bytes (l ∷ ls) = Some (written (l ∷ ls))
