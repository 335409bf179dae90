-- The number of each limit.
use Rattle.std.proofs.Common.{◌≡◌, ◌∷◌, [], refl}
use Rattle.tile_cache.specs.declared.cached_tiles.TheConstants.{MAX_CACHED_TILES, MAX_CACHED_BYTES, MAX_TILE_BYTES}
use Rattle.tile_cache.specs.declared.touch_grid.TheConstants.{SIDE, WIDE_SIDE, WIDE_MOST, LEVEL_CELLS, LEVELS, WIDE_LEVELS, CELLS, WIDE_CELLS, FINEST}
use Rattle.tile_cache.specs.declared.touch_grid.TheConstants.{CELL_BITS}

pub max_cached_tiles_is : MAX_CACHED_TILES ≡ 256
max_cached_tiles_is = refl

pub max_cached_bytes_is : MAX_CACHED_BYTES ≡ 67108864
max_cached_bytes_is = refl

pub max_tile_bytes_is : MAX_TILE_BYTES ≡ 16777216
max_tile_bytes_is = refl

pub side_is : SIDE ≡ 32
side_is = refl

pub wide_side_is : WIDE_SIDE ≡ 256
wide_side_is = refl

pub wide_most_is : WIDE_MOST ≡ 40
wide_most_is = refl

pub level_cells_is : LEVEL_CELLS ≡ 1024
level_cells_is = refl

pub levels_is : LEVELS ≡ 3
levels_is = refl

pub wide_levels_is : WIDE_LEVELS ≡ 4
wide_levels_is = refl

pub cells_is : CELLS ≡ 3072
cells_is = refl

pub wide_cells_is : WIDE_CELLS ≡ 68608
wide_cells_is = refl

pub finest_is : FINEST ≡ 2048
finest_is = refl

pub cell_bits_is : CELL_BITS ≡ 27 ∷ 22 ∷ 17 ∷ 17 ∷ []
cell_bits_is = refl
