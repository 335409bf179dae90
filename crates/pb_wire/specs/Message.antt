-- Messages: fields one after the other, each a key and its value.
use Rattle.std.specs.Prelude.{◌≡◌, ℕ, ◌+◌, ◌*◌, ◌/◌, ◌%◌, ◌<◌, ◌≤◌, ◌==◌, ◌||◌, List, [], ◌∷◌, ◌++◌, length, take, drop, Ok, Err, nat_lt, if◌then◌else◌}
use Rattle.reader.specs.Reading.{Read, ◌>>=◌}
use Rattle.pb_wire.specs.declared.fault.FaultKind.{FaultKind}
use Rattle.pb_wire.specs.declared.fault.FaultKind.TheVariants.{Cut, Number, WireType}
use Rattle.pb_wire.specs.declared.fields.FieldValue.{FieldValue}
use Rattle.pb_wire.specs.declared.fields.FieldValue.TheVariants as values
use Rattle.pb_wire.specs.declared.fields.Field.{Field}
use Rattle.pb_wire.specs.declared.limits.TheConstants.{MAX_FIELD, WIRE_VARINT, WIRE_I64, WIRE_LEN, WIRE_I32}
use Rattle.pb_wire.specs.Varint.{IsVarint, varint_at}

-- a value without where it lies in memory
pub data Value : Type 0 where
  varint_value : ℕ → Value
  eight_bytes : List ℕ → Value
  some_bytes : List ℕ → Value
  four_bytes : List ℕ → Value

-- a field without where it lies in memory
pub record FieldData : Type 0 where
  pub number : ℕ
  pub value : Value

abbrev pub value_view : FieldValue → Value
value_view (values.Varint n) = varint_value n
value_view (values.Eight part) = eight_bytes part.now
value_view (values.Bytes part) = some_bytes part.now
value_view (values.Four part) = four_bytes part.now

abbrev pub field_view : Field → FieldData
field_view f = record { number = f.number; value = value_view f.value }

-- ---- what a message is

abbrev pub wire_type : Value → ℕ
wire_type (varint_value n) = WIRE_VARINT
wire_type (eight_bytes part) = WIRE_I64
wire_type (some_bytes part) = WIRE_LEN
wire_type (four_bytes part) = WIRE_I32

-- the bytes encode the value
abbrev pub SpellsValue : List ℕ → Value → Type 0
SpellsValue bytes (varint_value n) = IsVarint bytes n
SpellsValue bytes (eight_bytes part) = (bytes ≡ part) × (length part ≡ 8)
SpellsValue bytes (some_bytes part) = (len : List ℕ) × IsVarint len (length part) × (bytes ≡ len ++ part)
SpellsValue bytes (four_bytes part) = (bytes ≡ part) × (length part ≡ 4)

-- the bytes encode the field: a key and a value
pub record IsField (bytes : List ℕ) (f : FieldData) : Type 0 where
  pub key : List ℕ
  pub value : List ℕ
  pub parts : bytes ≡ key ++ value
  pub key_is : IsVarint key (8 * f.number + wire_type f.value)
  pub value_is : SpellsValue value f.value
  pub number : (0 < f.number) × (f.number ≤ MAX_FIELD)

-- the bytes encode these fields, one after the other
abbrev pub IsMessage : List ℕ → List FieldData → Type 0
IsMessage bytes [] = bytes ≡ []
IsMessage bytes (f ∷ fs) = (front : List ℕ) × (rest : List ℕ) × (bytes ≡ front ++ rest) × IsField front f × IsMessage rest fs

-- ---- decoding from left to right, with the first fault

-- the first len bytes
abbrev pub front_at : ℕ → List ℕ → Read FaultKind (List ℕ)
front_at len bytes = if nat_lt (length bytes) len then Err Cut else Ok (take len bytes)

-- the value of this wire type, and its length
unfoldable pub value_at : ℕ → List ℕ → Read FaultKind (Value × ℕ)
value_at wire bytes =
    if wire == WIRE_VARINT then (varint_at bytes >>= λ n. Ok (varint_value n.0, n.1))
    else (if wire == WIRE_I64 then (front_at 8 bytes >>= λ part. Ok (eight_bytes part, 8))
    else (if wire == WIRE_LEN then (varint_at bytes >>= λ n. front_at n.0 (drop n.1 bytes) >>= λ part. Ok (some_bytes part, n.1 + n.0))
    else (if wire == WIRE_I32 then (front_at 4 bytes >>= λ part. Ok (four_bytes part, 4))
    else Err WireType)))

-- the first field, and its length
unfoldable pub field_at : List ℕ → Read FaultKind (FieldData × ℕ)
field_at bytes = varint_at bytes >>= λ key.
    if (key.0 / 8 == 0) || nat_lt MAX_FIELD (key.0 / 8) then Err Number
    else (value_at (key.0 % 8) (drop key.1 bytes) >>= λ value. Ok (record { number = key.0 / 8; value = value.0 }, key.1 + value.1))
