-- Values of a fixed length.
use Rattle.std.specs.Prelude.{◌==◌, Bool, true, length}
use Rattle.pb_wire.specs.declared.fields.FieldValue.{FieldValue}
use Rattle.pb_wire.specs.declared.fields.FieldValue.TheVariants.{Varint, Eight, Bytes, Four}

-- whether a value of eight or four bytes has that length
abbrev pub has_its_length : FieldValue → Bool
has_its_length (Varint n) = true
has_its_length (Eight part) = length part.now == 8
has_its_length (Bytes part) = true
has_its_length (Four part) = length part.now == 4
