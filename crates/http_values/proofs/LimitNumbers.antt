-- The number of each limit.
use Rattle.std.proofs.Common.{◌≡◌, refl}
use Rattle.http_values.specs.declared.digits.TheConstants.{MAX_DIGITS}
use Rattle.http_values.specs.declared.positions.TheConstants.{MAX_POSITION_DIGITS}

pub max_digits_is : MAX_DIGITS ≡ 20
max_digits_is = refl

pub max_position_digits_is : MAX_POSITION_DIGITS ≡ 18
max_position_digits_is = refl
