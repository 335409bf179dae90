-- Records of a journal, and their sectors. Numbers are stored lowest byte first.
use Rattle.std.specs.Prelude.{◌≡◌, ◌≤◌, ◌+◌, ◌-◌, ◌*◌, ◌/◌, ◌==◌, if◌then◌else◌, ℕ}
use Rattle.std.specs.Prelude.{List, map, ◌∷◌, ◌++◌, length, replicate, take, drop, slice_index, slice_range, All}
use Rattle.std.specs.Int.{w16, w32, w64, to_le_bytes, from_le_bytes}
use Rattle.edit_journal.specs.declared.sizes.TheConstants.{FIRST_RECORD_VERSION, LAST_RECORD_VERSION, MAX_RECORD_BYTES}
use Rattle.edit_journal.specs.declared.sizes.TheConstants.{FRONT_BYTES, PART_BYTES, HEAD_KIND, BODY_KIND}
use Rattle.edit_journal.specs.declared.records.Record.{Record}

-- what a record of the journal has, beside its number
pub record RecordData : Type 0 where
  pub version : ℕ
  pub text : List ℕ

-- the record of this version and text
abbrev pub record_of : (version : ℕ) → List ℕ → RecordData
record_of version text = record { version = version; text = text }

abbrev pub record_data : Record → RecordData
record_data found = record_of found.version found.text.items

abbrev pub records_of : List Record → List RecordData
records_of found = map record_data found

-- a record may have this version
abbrev pub IsRecordVersion : ℕ → Type 0
IsRecordVersion version = (FIRST_RECORD_VERSION ≤ version) × (version ≤ LAST_RECORD_VERSION)

-- The greatest length of the text of a record of this version. Version 2 has a count byte before what version 1 has.
abbrev pub most_bytes : (version : ℕ) → ℕ
most_bytes version = MAX_RECORD_BYTES + (version - FIRST_RECORD_VERSION)

-- a record of this version may have a text of this length
abbrev pub IsRecordLength : (version bytes : ℕ) → Type 0
IsRecordLength version bytes = IsRecordVersion version × (1 ≤ bytes) × (bytes ≤ most_bytes version)

-- each record has a version from 1 to this one
abbrev pub AreUpTo : (most : ℕ) → List RecordData → Type 0
AreUpTo most records = All (λ (r : RecordData). r.version ≤ most) records

-- how many parts a text of this length has
abbrev pub parts_of : ℕ → ℕ
parts_of bytes = (bytes + (PART_BYTES - 1)) / PART_BYTES

-- the bytes of the text in one part
abbrev pub piece : List ℕ → ℕ → List ℕ
piece text part = take PART_BYTES (drop (PART_BYTES * part) text)

-- the front of a part's sector: its kind, the record's version, how many parts there are or which one this is,
-- the edit's number, the length of its text
unfoldable pub part_front : (version number bytes part : ℕ) → List ℕ
part_front version number bytes part = (if part == 0 then HEAD_KIND else BODY_KIND) ∷ (version
    ∷ (to_le_bytes w16 (if part == 0 then parts_of bytes else part) ++ (to_le_bytes w64 number ++ to_le_bytes w32 bytes)))

-- the sector of a part as it is written: the front, the bytes of the text, zeros
unfoldable pub record_sector : (version number : ℕ) (text : List ℕ) (part : ℕ) → List ℕ
record_sector version number text part =
    part_front version number (length text) part ++ (piece text part ++ replicate (PART_BYTES - length (piece text part)) 0)

-- the sector begins with the front of this part
abbrev pub HasFront : (version number bytes part : ℕ) → List ℕ → Type 0
HasFront version number bytes part sector = take FRONT_BYTES sector ≡ part_front version number bytes part

-- The sector is that of a part: its front and its bytes of the text are stored there, and anything after them.
pub record IsPart (version number : ℕ) (text : List ℕ) (part : ℕ) (sector : List ℕ) : Type 0 where
  pub front : HasFront version number (length text) part sector
  pub bytes : take (length (piece text part)) (drop FRONT_BYTES sector) ≡ piece text part

-- the edit's number in a sector
abbrev pub number_from : List ℕ → ℕ
number_from sector = from_le_bytes w64 (slice_range sector 4 12)

-- the length of a text in a sector
abbrev pub length_from : List ℕ → ℕ
length_from sector = from_le_bytes w32 (slice_range sector 12 16)

-- the sector is the head of the record of this version and number
pub record IsHeadOf (version number : ℕ) (sector : List ℕ) : Type 0 where
  pub kind_is : slice_index sector 0 ≡ HEAD_KIND
  pub version_is : slice_index sector 1 ≡ version
  pub number_is : number_from sector ≡ number

-- the sector is the head of the record with this number, of a version from 1 to the greatest that is expected
abbrev pub IsExpectedHead : (most number : ℕ) → List ℕ → Type 0
IsExpectedHead most number sector =
    (version : ℕ) × (FIRST_RECORD_VERSION ≤ version) × (version ≤ most) × IsHeadOf version number sector
