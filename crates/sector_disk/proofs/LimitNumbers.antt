-- The size of a sector, as a number.
use Rattle.std.proofs.Common.{◌≡◌, refl}
use Rattle.sector_disk.specs.declared.disk.TheConstants.{SECTOR_BYTES}

sector_bytes_is : SECTOR_BYTES ≡ 512
sector_bytes_is = refl
