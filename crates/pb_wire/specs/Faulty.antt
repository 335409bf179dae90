-- The fault of bytes that are not a message.
use Rattle.std.specs.Prelude.{◌≡◌, ℕ, ◌/◌, ◌%◌, ◌<◌, ◌≤◌, ◌⊎◌, List, ◌++◌, length}
use Rattle.pb_wire.specs.declared.fault.FaultKind.{FaultKind}
use Rattle.pb_wire.specs.declared.fault.FaultKind.TheVariants as faults
use Rattle.pb_wire.specs.declared.fault.WireFault.{WireFault}
use Rattle.pb_wire.specs.declared.limits.TheConstants.{MAX_FIELD, WIRE_VARINT, WIRE_I64, WIRE_LEN, WIRE_I32}
use Rattle.pb_wire.specs.Varint.{IsVarint, IsCut, IsOverlong}
use Rattle.pb_wire.specs.Message.{FieldData, IsMessage}

-- the numbers that a field may have
abbrev pub IsFieldNumber : ℕ → Type 0
IsFieldNumber n = (0 < n) × (n ≤ MAX_FIELD)

-- why no value of this wire type begins the bytes: no value has the type, a number or a length is cut or overlong, or bytes are missing
pub data ValueHas (wire : ℕ) (bytes : List ℕ) (d : FaultKind) : Type 0 where
  no_type : d ≡ faults.WireType → (wire ≡ WIRE_VARINT → ⊥) → (wire ≡ WIRE_I64 → ⊥) → (wire ≡ WIRE_LEN → ⊥) → (wire ≡ WIRE_I32 → ⊥) → ValueHas wire bytes d
  number_cut : d ≡ faults.Cut → (wire ≡ WIRE_VARINT) ⊎ (wire ≡ WIRE_LEN) → IsCut bytes → ValueHas wire bytes d
  number_overlong : d ≡ faults.Varint → (wire ≡ WIRE_VARINT) ⊎ (wire ≡ WIRE_LEN) → IsOverlong bytes → ValueHas wire bytes d
  eight_cut : d ≡ faults.Cut → wire ≡ WIRE_I64 → length bytes < 8 → ValueHas wire bytes d
  bytes_cut : d ≡ faults.Cut → wire ≡ WIRE_LEN → (len : List ℕ) → (rest : List ℕ) → (n : ℕ) → bytes ≡ len ++ rest → IsVarint len n → length rest < n
      → ValueHas wire bytes d
  four_cut : d ≡ faults.Cut → wire ≡ WIRE_I32 → length bytes < 4 → ValueHas wire bytes d

-- why no field begins the bytes: its key is cut or overlong; else its number is out of range; else its value has the fault
pub data FieldHas (bytes : List ℕ) (d : FaultKind) : Type 0 where
  key_cut : d ≡ faults.Cut → IsCut bytes → FieldHas bytes d
  key_overlong : d ≡ faults.Varint → IsOverlong bytes → FieldHas bytes d
  no_number : d ≡ faults.Number → (key : List ℕ) → (rest : List ℕ) → (k : ℕ) → bytes ≡ key ++ rest → IsVarint key k → (IsFieldNumber (k / 8) → ⊥)
      → FieldHas bytes d
  at_value : (key : List ℕ) → (rest : List ℕ) → (k : ℕ) → bytes ≡ key ++ rest → IsVarint key k → IsFieldNumber (k / 8) → ValueHas (k % 8) rest d
      → FieldHas bytes d

-- the bytes begin with these fields, and the next field has the fault, at the offset of its key
pub record IsFaulty (bytes : List ℕ) (fields : List FieldData) (fault : WireFault) : Type 0 where
  pub front : List ℕ
  pub rest : List ℕ
  pub parts : bytes ≡ front ++ rest
  pub message : IsMessage front fields
  pub some : 0 < length rest
  pub offset : fault.at ≡ length front
  pub has : FieldHas rest fault.kind
