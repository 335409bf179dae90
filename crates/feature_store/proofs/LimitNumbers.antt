-- The limit of a map, as a number.
use Rattle.std.proofs.Common.{◌≡◌, refl}
use Rattle.feature_store.specs.declared.limit.TheConstants.{TEXTS_END}

pub texts_end_is : TEXTS_END ≡ 8589934592
texts_end_is = refl
