-- Laws of the encoding, for whoever reads the contracts.
use Rattle.std.proofs.Common.{◌≡◌, ℕ, ◌<◌, ◌≤◌, ◌^◌, ◌↔◌, ◌⊎◌, List, [], ◌∷◌, ◌++◌, length, map, Ok, Err, arith}
use Rattle.pb_wire.specs.declared.fault.WireFault.{WireFault}
use Rattle.pb_wire.specs.Varint.{varint, IsVarint}
use Rattle.pb_wire.specs.Message.{FieldData, IsMessage}
use Rattle.pb_wire.specs.Faulty.{IsFaulty}
use Rattle.pb_wire.specs.Items.{items_of}
use Rattle.pb_wire.proofs.Varints.{varint_spells, varint_shortest}
use Rattle.pb_wire.proofs.MessageLaws.{items_message, message_items}
use Rattle.pb_wire.proofs.FaultLaws.{faulty_is, is_faulty, one_or_other}

-- what is written for a number encodes it
pub written_spells : (n : ℕ) → n < 2 ^ 64 → IsVarint (varint n) n
written_spells = varint_spells

-- no encoding is shorter than what is written
pub written_shortest : (bytes : List ℕ) (n : ℕ) → IsVarint bytes n → length (varint n) ≤ length bytes
written_shortest = varint_shortest

-- the items of bytes are fields without a fault exactly if the bytes are a message of these fields
pub message_fields : (bytes : List ℕ) (fields : List FieldData) → IsMessage bytes fields ↔ (items_of bytes ≡ map (λ f. Ok f) fields)
message_fields bytes fields = (message_items fields 0 bytes, items_message (length bytes) 0 bytes fields (omega arith))

-- the items of bytes are fields and then a fault exactly if the bytes begin with a message of these fields, and the next field has the fault
pub faulty_fields : (bytes : List ℕ) (fields : List FieldData) (fault : WireFault)
    → IsFaulty bytes fields fault ↔ (items_of bytes ≡ map (λ f. Ok f) fields ++ Err fault ∷ [])
faulty_fields bytes fields fault = (faulty_is bytes fields fault, is_faulty bytes fields fault)

-- bytes are a message or have a fault
pub message_or_fault : (bytes : List ℕ)
    → ((fields : List FieldData) × IsMessage bytes fields) ⊎ ((fields : List FieldData) × (fault : WireFault) × IsFaulty bytes fields fault)
message_or_fault = one_or_other
