-- The text that `show` prints for an archive.
use Rattle.std.specs.Prelude.{◌≡◌, ◌≢◌, ℕ, ◌<◌, ◌≤◌, List, ◌++◌, length, take, slice_index, codes, decimal, IsUtf8}
use Rattle.pm_header.specs.declared.header.Header.{Header}
use Rattle.pm_header.specs.declared.fault.HeaderFault.{HeaderFault}
use Rattle.pm_header.specs.declared.fault.HeaderFault.TheVariants.{Short, Magic, Version}
use Rattle.archive_commands.specs.declared.showing.ShowFault.{ShowFault}
use Rattle.archive_commands.specs.declared.showing.Metadata.{Metadata}
use Rattle.archive_commands.specs.declared.showing.Metadata.TheVariants.{Compressed, Text, Unreadable}
use Rattle.archive_commands.specs.declared.showing.ShowFault.TheVariants as show_faults
use Rattle.pm_header.specs.declared.header.TheConstants.{HEADER_BYTES}
use Rattle.pm_header.specs.Compression.{IsPlain}
use Rattle.pm_header.specs.Layout.{IsHeader, magic}
use Rattle.pm_archive.specs.Sections.{end_of, section_bytes}

-- the first fault of bytes that don't begin with a header
abbrev pub HeaderHas : List ℕ → HeaderFault → Type 0
HeaderHas bytes Short = length bytes < HEADER_BYTES
HeaderHas bytes Magic = (HEADER_BYTES ≤ length bytes) × (take 7 bytes ≢ magic)
HeaderHas bytes (Version n) = (HEADER_BYTES ≤ length bytes) × (take 7 bytes ≡ magic) × (slice_index bytes 7 ≡ n) × (n ≢ 3)

-- this holds if the text couldn't be written
abbrev pub IfWrite : Type 0 → ShowFault → Type 0
IfWrite P (show_faults.Header _) = Unit {0}
IfWrite P (show_faults.Write _) = P

-- the name of a fault, which is all that is printed of it
abbrev pub fault_name : ShowFault → List ℕ
fault_name (show_faults.Header Short) = codes "Short"
fault_name (show_faults.Header Magic) = codes "Magic"
fault_name (show_faults.Header (Version n)) = codes "Version"
fault_name (show_faults.Write error) = codes "Write"

-- ---- the lines of a header

unfoldable pub header_lines : Header → List ℕ
header_lines h =
    codes "version: 3\ntile type: " ++ (decimal h.kind
    ++ (codes "\ntile compression: " ++ (decimal h.compression
    ++ (codes "\ninternal compression: " ++ (decimal h.internal
    ++ (codes "\nclustered: " ++ (decimal h.clustered
    ++ (codes "\nzooms: " ++ (decimal h.min_zoom
    ++ (codes " to " ++ (decimal h.max_zoom
    ++ (codes "\naddressed tiles: " ++ (decimal h.addressed
    ++ (codes "\ntile entries: " ++ (decimal h.entries
    ++ (codes "\ntile contents: " ++ (decimal h.contents ++ codes "\n")))))))))))))))))

-- ---- the line of the metadata

unfoldable pub compressed_line : ℕ → List ℕ
compressed_line n = codes "metadata: compressed " ++ (decimal n ++ codes "\n")

unfoldable pub text_line : List ℕ → List ℕ
text_line text = codes "metadata: " ++ (text ++ codes "\n")

unfoldable pub unreadable_line : List ℕ
unreadable_line = codes "metadata: unreadable\n"

-- the line for each case of the metadata
abbrev pub metadata_line : Metadata → List ℕ
metadata_line (Compressed n) = compressed_line n
metadata_line (Text text) = text_line text.now
metadata_line Unreadable = unreadable_line

-- the metadata is inside the file, and is UTF-8
abbrev pub HasText : List ℕ → Header → Type 0
HasText bytes h = (end_of h.metadata ≤ length bytes) × IsUtf8 (section_bytes h.metadata bytes)

-- this is the line of the metadata
pub data IsMetadataLine (bytes : List ℕ) (h : Header) (line : List ℕ) : Type 0 where
  is_compressed : ¬ IsPlain h.internal → line ≡ compressed_line h.internal → IsMetadataLine bytes h line
  is_text : IsPlain h.internal → HasText bytes h → line ≡ text_line (section_bytes h.metadata bytes) → IsMetadataLine bytes h line
  is_unreadable : IsPlain h.internal → ¬ HasText bytes h → line ≡ unreadable_line → IsMetadataLine bytes h line

-- the text is the lines of the header with which the bytes begin, and the line of its metadata
pub record IsShown (bytes text : List ℕ) : Type 0 where
  pub header : Header
  pub begins : IsHeader bytes header
  pub line : List ℕ
  pub metadata : IsMetadataLine bytes header line
  pub lines : text ≡ header_lines header ++ line
