-- The number of each limit.
use Rattle.std.proofs.Common.{◌≡◌, refl}
use Rattle.pb_wire.specs.declared.limits.TheConstants.{MAX_FIELD, WIRE_VARINT, WIRE_I64, WIRE_LEN, WIRE_I32}

pub max_field_is : MAX_FIELD ≡ 536870911
max_field_is = refl

pub wire_varint_is : WIRE_VARINT ≡ 0
wire_varint_is = refl

pub wire_i64_is : WIRE_I64 ≡ 1
wire_i64_is = refl

pub wire_len_is : WIRE_LEN ≡ 2
wire_len_is = refl

pub wire_i32_is : WIRE_I32 ≡ 5
wire_i32_is = refl
