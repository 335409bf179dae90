-- The boxes of tiles that the features of a map have at a zoom.
use Rattle.std.specs.Prelude.{◌≡◌, ℕ, ◌<◌, ◌≤◌, ◌^◌, ◌&&◌, Bool, nat_le, Option, Some, None, List, length, map, filter, take}
use Rattle.box_index.specs.declared.entry.IndexEntry.{IndexEntry}
use Rattle.feature_model.specs.Data.{FeatureData}
use Rattle.tile_cutter.specs.Covered.{covered}
use Rattle.tile_cutter.specs.Cut.{has_zoom}
use Rattle.tile_cutter.specs.Widened.{range_of}
use Rattle.tile_walk.specs.declared.numbered.Numbered.{Numbered}
use Rattle.feature_store.specs.declared.feature_boxes.Covers.{Covers}
use Rattle.feature_store.specs.Store.{FeatureMap}

-- the tiles of a zoom that a feature covers, with its number
abbrev pub box_of : ℕ → ℕ × FeatureData → Numbered
box_of zoom e = record { range = covered e.1.geometry zoom; number = e.0 }

-- those of the features that are shown at the zoom, in the order of the map
unfoldable pub boxes_at : ℕ → FeatureMap → List Numbered
boxes_at zoom m = map (box_of zoom) (filter (λ e. has_zoom e.1 zoom) m)

-- the same by boxes of the world: the box has the zoom, and the tiles that it meets
abbrev pub is_at_zoom : ℕ → IndexEntry → Bool
is_at_zoom zoom e = nat_le e.span.minzoom zoom && nat_le zoom e.span.maxzoom

abbrev pub tiles_of_box : ℕ → IndexEntry → Numbered
tiles_of_box zoom e = record { range = range_of (Some e.span.bounds) zoom; number = e.id }

unfoldable pub boxes_in : ℕ → List IndexEntry → List Numbered
boxes_in zoom es = map (tiles_of_box zoom) (filter (is_at_zoom zoom) es)

-- ---- read feature by feature

-- these are the tiles of a zoom that the first features of a map cover
pub record AreFirst (zoom : ℕ) (m : FeatureMap) (c : Covers) : Type 0 where
  pub few : c.read < 2 ^ 64
  pub within : c.read ≤ length m
  pub tiles : c.tiles.items ≡ boxes_at zoom (take c.read m)

-- how many features were read
abbrev pub read_of : Option Covers → ℕ
read_of None = 0
read_of (Some c) = c.read
