-- The list that keeps tiles: their places and the tiles, the one that was asked for last first.
use Rattle.std.specs.Prelude.{◌≡◌, ◌<◌, ◌≤◌, ◌⊎◌, ℕ, suc, List, [], ◌∷◌, length, take, sum_by}
use Rattle.std.specs.Rc.{rc_slice_items}
use Rattle.lru.specs.LruCache.{LruCache}
use Rattle.tile_cache.specs.declared.cached_tiles.CachedTile.{CachedTile}
use Rattle.tile_cache.specs.declared.cached_tiles.TheConstants.{MAX_CACHED_BYTES}
use Rattle.tile_cache.specs.declared.cached_tiles.TileKey.{TileKey}
use Rattle.tile_cache.specs.Kept.{IsSmall}

-- the bytes of the tiles of these entries together
abbrev pub bytes_of : List (TileKey × CachedTile) → ℕ
bytes_of es = sum_by (λ e. length (rc_slice_items e.1.bytes)) es

-- there is a first tile, and it is small
abbrev pub IsFirstSmall : List (TileKey × CachedTile) → Type 0
IsFirstSmall [] = ⊥
IsFirstSmall (e ∷ es) = IsSmall (rc_slice_items e.1.bytes)

-- the entries at the front stay, at least the first; with one more they would have too many bytes, unless all stay
pub record IsFront (old new : LruCache TileKey CachedTile) : Type 0 where
  pub more : ℕ
  pub entries : new.entries ≡ take (suc more) old.entries
  pub cap : new.cap ≡ old.cap
  pub most : (length old.entries ≤ suc more) ⊎ (MAX_CACHED_BYTES < bytes_of (take (suc (suc more)) old.entries))
