-- A map with a cache of its tiles, and which of them are still its tiles.
use Rattle.std.specs.Prelude.{◌≡◌, ◌⊎◌, ℕ, ◌≤◌, List, [], ◌∷◌, All, Option, Some, None, IfSome, option_map}
use Rattle.std.specs.Rc.{rc_slice_items}
use Rattle.std.specs.declared.alloc.Global.{Global}
use Rattle.std.specs.declared.rc.RcSlice.{RcSlice}
use Rattle.feature_model.specs.declared.feature.WorldBox.{WorldBox}
use Rattle.feature_model.specs.Data.{FeatureData, ChangeData, put, delete}
use Rattle.feature_store.specs.Content.{IsTileContent}
use Rattle.feature_store.specs.Hand.{HandView}
use Rattle.feature_store.specs.Layers.{layers}
use Rattle.feature_store.specs.Store.{FeatureMap, feature_at, changed}
use Rattle.tile_cache.specs.Kept.{TileView, CacheView, kept_at, with_first, IsSmall, KeepsFewer, KeepsLatest}
use Rattle.tile_cache.specs.Touched.{Mark, Reaches, Remembers}
use Rattle.tile_cache.specs.declared.cached_tiles.Origin.{Origin}
use Rattle.tile_cache.specs.declared.cached_tiles.Origin.TheVariants.{Cut, Read}
use Rattle.tile_cutter.specs.WorldBox.{bounding_box}

-- what contracts see: the map, how many features can be added without allocating, the number of the last edit, the newest edit of each
-- cell of the world, and the cached tiles
pub record CachedView : Type 0 where
  pub features : FeatureMap
  pub spare : ℕ
  pub last : ℕ
  pub touched : List ℕ
  pub kept : CacheView

-- ---- what edits touch

-- the bounding box of a feature
abbrev pub box_of : FeatureData → WorldBox
box_of f = bounding_box f.geometry

-- these marks, and that of an edit with this number that touches a box, if there is one
abbrev pub with_box : Option WorldBox → ℕ → List Mark → List Mark
with_box None number marks = marks
with_box (Some bounds) number marks = (bounds, number) ∷ marks

-- the same of a feature
abbrev pub with_mark : Option FeatureData → ℕ → List Mark → List Mark
with_mark o number marks = with_box (option_map box_of o) number marks

-- these marks, and those of a change by an edit with this number
abbrev pub marks_of : FeatureMap → ChangeData → ℕ → List Mark → List Mark
marks_of m (put id f) number marks = (box_of f, number) ∷ with_mark (feature_at m id) number marks
marks_of m (delete id) number marks = with_mark (feature_at m id) number marks

-- the same of changes, from the first to the last
abbrev pub marks_after : FeatureMap → List ChangeData → ℕ → List Mark → List Mark
marks_after m [] number marks = marks
marks_after m (c ∷ cs) number marks = marks_after (changed m c) cs number (marks_of m c number marks)

-- no edit after this number can have touched what the tile shows
abbrev pub IsUntouched : List Mark → (z x y number : ℕ) → Type 0
IsUntouched marks z x y number = All (λ m. Reaches m.0 z x y → m.1 ≤ number) marks

-- ---- earlier maps

-- The map was `was` after the edit of number n, as far as the tiles show that no later edit can have touched; `m` is the map now, `cells`
-- the newest edit of each cell, and `last` the number of the last edit.
pub record WasMap (m : FeatureMap) (cells : List ℕ) (last n : ℕ) (was : FeatureMap) : Type 0 where
  pub marks : List Mark
  pub remembers : Remembers cells marks
  pub number : n ≤ last
  pub tiles : (z x y : ℕ) → IsUntouched marks z x y n → layers m z x y ≡ layers was z x y

-- ---- what is kept

-- the bytes of a tile that is shared, and none if it is empty
abbrev pub shared_bytes : Option (RcSlice ℕ Global) → Option (List ℕ)
shared_bytes content = option_map rc_slice_items content

-- a cached tile is that of the map, unless an edit after its number may have touched it
pub record IsKept (m : FeatureMap) (marks : List Mark) (last z x y : ℕ) (t : TileView) : Type 0 where
  pub number : t.number ≤ last
  pub tile : IsUntouched marks z x y t.number → IsTileContent (layers m z x y) (Some t.bytes)

-- that is so of each kept tile of this origin, for edits up to the last that the numbers of these cells remember
pub record AreKept (origin : Origin) (m : FeatureMap) (cells : List ℕ) (last : ℕ) (kept : CacheView) : Type 0 where
  pub marks : List Mark
  pub remembers : Remembers cells marks
  pub numbers : All (λ m. m.1 ≤ last) marks
  pub tiles : (z x y : ℕ) (t : TileView) → kept_at kept z x y ≡ Some t → t.origin ≡ origin → IsKept m marks last z x y t

-- What is kept with a map: tiles that were cut are right whatever a disk returns, and the tile in the making is of the map as it is.
pub record IsCached (m : FeatureMap) (cells : List ℕ) (last : ℕ) (kept : CacheView) (making : Option HandView) : Type 0 where
  pub cut : AreKept Cut m cells last kept
  pub hand : IfSome making (λ hand. hand.features ≡ m)

-- cached tiles that were read are right: what they were read from returned what was written
abbrev pub AreReadRight : FeatureMap → (cells : List ℕ) → (last : ℕ) → CacheView → Type 0
AreReadRight = AreKept Read

-- this tile is the first for its place, and of the others those that were asked for last are kept, as many as the bounds allow
abbrev pub KeepsFirst : (z x y : ℕ) → TileView → (old new : CacheView) → Type 0
KeepsFirst z x y t old new = KeepsLatest (with_first (record { z = z; x = x; y = y }) t old.kept) new.kept

-- This tile is kept for its place, and those asked for longest ago may be dropped for it; or, if it is too large or out of memory, the
-- cache is unchanged.
abbrev pub KeepsOrNot : (z x y : ℕ) → TileView → (old new : CacheView) → Type 0
KeepsOrNot z x y t old new =
    ((kept_at new z x y ≡ Some t) × KeepsFewer z x y old new × KeepsFirst z x y t old new × IsSmall t.bytes) ⊎ (new ≡ old)
