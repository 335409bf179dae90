-- The number of each limit.
use Rattle.std.proofs.Common.{◌≡◌, refl}
use Rattle.hilbert_id.specs.declared.number.TheConstants.{TILE_IDS}

pub tile_ids_is : TILE_IDS ≡ 6148914691236517205
tile_ids_is = refl
