-- The bytes of an archive that are read before a reply is made, as a number.
use Rattle.std.proofs.Common.{◌≡◌, refl}
use Rattle.tile_service.specs.declared.tickets.TheConstants.{FIRST_BYTES}

first_bytes_are : FIRST_BYTES ≡ 16384
first_bytes_are = refl
