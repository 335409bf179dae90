-- The limits of what a tile shows, as numbers.
use Rattle.std.proofs.Common.{◌≡◌, refl}
use Rattle.tile_cutter.specs.declared.coordinates.TheConstants.{EXTENT, MARGIN, WORLD_ZOOM}
use Rattle.tile_cutter.specs.declared.reach.TheConstants.{MAX_TILES}

pub extent_is : EXTENT ≡ 4096
extent_is = refl

pub margin_is : MARGIN ≡ 64
margin_is = refl

pub world_zoom_is : WORLD_ZOOM ≡ 20
world_zoom_is = refl

pub max_tiles_is : MAX_TILES ≡ 262144
max_tiles_is = refl
