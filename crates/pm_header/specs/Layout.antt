-- The offset of each field of a header. Numbers are stored least significant byte first.
use Rattle.std.specs.Prelude.{◌≡◌, ℕ, ℤ, ◌+◌, ◌≤◌, List, length, take, codes, slice_index, slice_range}
use Rattle.std.specs.Int.{w32, w64, from_le_bytes, to_le_bytes, cast_signed}
use Rattle.pm_header.specs.declared.section_span.SectionSpan.{SectionSpan}
use Rattle.pm_header.specs.declared.header.Header.{Header}
use Rattle.pm_header.specs.declared.header.TheConstants.{HEADER_BYTES}

-- the first bytes of each archive
abbrev pub magic : List ℕ
magic = codes "PMTiles"

-- the number in the eight bytes from an offset on
abbrev pub number_at : ℕ → List ℕ → ℕ
number_at offset bytes = from_le_bytes w64 (slice_range bytes offset (offset + 8))

-- the signed number in the four bytes from an offset on
abbrev pub position_at : ℕ → List ℕ → ℤ
position_at offset bytes = cast_signed w32 (from_le_bytes w32 (slice_range bytes offset (offset + 4)))

-- the offset and the length of a section, two numbers from an offset on
abbrev pub part_at : ℕ → List ℕ → SectionSpan
part_at start bytes = record { offset = number_at start bytes; length = number_at (start + 8) bytes }

-- each field at its offset
unfoldable pub header_at : List ℕ → Header
header_at bytes = record {
  root = part_at 8 bytes;
  metadata = part_at 24 bytes;
  leaves = part_at 40 bytes;
  tiles = part_at 56 bytes;
  addressed = number_at 72 bytes;
  entries = number_at 80 bytes;
  contents = number_at 88 bytes;
  clustered = slice_index bytes 96;
  internal = slice_index bytes 97;
  compression = slice_index bytes 98;
  kind = slice_index bytes 99;
  min_zoom = slice_index bytes 100;
  max_zoom = slice_index bytes 101;
  min_lon = position_at 102 bytes;
  min_lat = position_at 106 bytes;
  max_lon = position_at 110 bytes;
  max_lat = position_at 114 bytes;
  centre_zoom = slice_index bytes 118;
  centre_lon = position_at 119 bytes;
  centre_lat = position_at 123 bytes;
}

-- the bytes begin with this header
pub record IsHeader (bytes : List ℕ) (header : Header) : Type 0 where
  pub whole : HEADER_BYTES ≤ length bytes
  pub magic_is : take 7 bytes ≡ magic
  pub version_is : slice_index bytes 7 ≡ 3
  pub fields_are : header ≡ header_at bytes

-- the eight bytes of a number, least significant first
abbrev pub little_8 : ℕ → List ℕ
little_8 n = to_le_bytes w64 n
