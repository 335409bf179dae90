-- The number of each limit.
use Rattle.std.proofs.Common.{◌≡◌, refl}
use Rattle.mvt_write.specs.declared.pool.TheConstants.{SLOTS}

pub slots_is : SLOTS ≡ 128
slots_is = refl
