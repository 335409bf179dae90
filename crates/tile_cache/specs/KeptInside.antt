-- How a cache of tiles is stored.
use Rattle.std.specs.Prelude.{◌≡◌, ◌≤◌, map, length}
use Rattle.tile_cache.specs.Kept.{CacheView, tile_view, bytes_in}
use Rattle.tile_cache.specs.declared.cached_tiles.TheConstants.{MAX_CACHED_TILES, MAX_CACHED_BYTES}
use Rattle.tile_cache.specs.declared.cached_tiles.TileCache.TheInside.{Inside}

-- what the entries of the list keep, in its order
abbrev pub cache_view : Inside → CacheView
cache_view c = record { kept = map (λ e. (e.0, tile_view e.1)) c.tiles.entries }

-- it holds at most MAX_CACHED_TILES tiles and MAX_CACHED_BYTES bytes, and counts the bytes
pub record IsCache (c : Inside) : Type 0 where
  pub cap : c.tiles.cap ≡ MAX_CACHED_TILES
  pub room : length c.tiles.entries ≤ MAX_CACHED_TILES
  pub count : c.bytes ≡ bytes_in (cache_view c)
  pub most : c.bytes ≤ MAX_CACHED_BYTES
