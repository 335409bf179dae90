-- The limit of a publication's step, as a number.
use Rattle.std.proofs.Common.{◌≡◌, refl}
use Rattle.tile_service.specs.declared.publishing.TheConstants.{STEP_SECTORS}

step_sectors_is : STEP_SECTORS ≡ 64
step_sectors_is = refl
