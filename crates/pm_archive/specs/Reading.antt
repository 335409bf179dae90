-- The faults of an archive's sections and directories, in the order in which they are looked for.
use Rattle.std.specs.Prelude.{◌≡◌, ◌≢◌, ℕ, zero, suc, ◌+◌, ◌<◌, ◌≤◌, ◌⊎◌, max, List, [], ◌∷◌, ◌++◌, length, take, slice_index, Ok, Err, Option, Some, None}
use Rattle.std.specs.Prelude.{if◌then◌else◌, nat_lt, nat_le}
use Rattle.reader.specs.Reading.{Read, ◌>>=◌}
use Rattle.hilbert_id.specs.declared.number.TheConstants.{TILE_IDS}
use Rattle.pm_header.specs.declared.header.Header.{Header}
use Rattle.pm_header.specs.declared.header.TheConstants.{HEADER_BYTES}
use Rattle.pm_header.specs.Compression.{IsPlain}
use Rattle.pm_header.specs.Layout.{IsHeader, magic}
use Rattle.pm_directory.specs.declared.entry.DirectoryEntry.{DirectoryEntry}
use Rattle.pm_directory.specs.declared.fault.DirectoryFault.{DirectoryFault}
use Rattle.pm_directory.specs.declared.fault.DirectoryFault.TheVariants as directory_faults
use Rattle.pm_directory.specs.Directory.{IsDirectory, ids_behind}
use Rattle.pm_directory.specs.Reading.{directory_at}
use Rattle.pm_archive.specs.declared.fault.ArchiveFault.{ArchiveFault}
use Rattle.pm_archive.specs.declared.fault.ArchiveFault.TheVariants as faults
use Rattle.pm_archive.specs.declared.fault.Section.{Section}
use Rattle.pm_archive.specs.declared.fault.Section.TheVariants as sections
use Rattle.pm_archive.specs.declared.limits.TheConstants.{OPENING_END, MAX_LEAF_LEVELS}
use Rattle.pm_archive.specs.Sections.{end_of, section_bytes, HasSections}
use Rattle.pm_archive.specs.Entries.{entry_bytes, bound_of}

-- ---- opening

-- the first section that is misplaced, in a file of `count` bytes
pub data IsMisplaced (count : ℕ) (h : Header) (s : Section) : Type 0 where
  root_misplaced : s ≡ sections.Root → (count < end_of h.root) ⊎ (OPENING_END < end_of h.root) → IsMisplaced count h s
  metadata_misplaced : s ≡ sections.Metadata → end_of h.root ≤ count → end_of h.root ≤ OPENING_END → count < end_of h.metadata → IsMisplaced count h s
  leaves_misplaced : s ≡ sections.Leaves → end_of h.root ≤ count → end_of h.root ≤ OPENING_END → end_of h.metadata ≤ count → count < end_of h.leaves
      → IsMisplaced count h s
  tiles_misplaced : s ≡ sections.Tiles → end_of h.root ≤ count → end_of h.root ≤ OPENING_END → end_of h.metadata ≤ count → end_of h.leaves ≤ count
      → count < end_of h.tiles → IsMisplaced count h s

-- no section is misplaced, in a file of `count` bytes
abbrev pub ArePlaced : ℕ → Header → Type 0
ArePlaced count h = (end_of h.root ≤ count) × (end_of h.root ≤ OPENING_END) × (end_of h.metadata ≤ count) × (end_of h.leaves ≤ count) × (end_of h.tiles ≤ count)

-- the first fault of bytes that have no sections or no root directory
pub data OpeningHas (bytes : List ℕ) (d : ArchiveFault) : Type 0 where
  is_short : d ≡ faults.Short → length bytes < HEADER_BYTES → OpeningHas bytes d
  other_magic : d ≡ faults.Magic → HEADER_BYTES ≤ length bytes → take 7 bytes ≢ magic → OpeningHas bytes d
  other_version : d ≡ faults.Version (slice_index bytes 7) → HEADER_BYTES ≤ length bytes → take 7 bytes ≡ magic → slice_index bytes 7 ≢ 3 → OpeningHas bytes d
  misplaced : (h : Header) → (s : Section) → d ≡ faults.Section s → IsHeader bytes h → IsMisplaced (length bytes) h s → OpeningHas bytes d
  compressed : (h : Header) → d ≡ faults.Compressed h.internal → IsHeader bytes h → ArePlaced (length bytes) h → ¬ IsPlain h.internal → OpeningHas bytes d
  no_directory : (h : Header) → d ≡ faults.Directory h.root.offset → HasSections bytes h
      → ((entries : List DirectoryEntry) → ¬ IsDirectory (section_bytes h.root bytes) entries) → OpeningHas bytes d

-- ---- listing: the root's entries in order, each leaf directory at the entry that names it

-- the least id of the entries that isn't between these
abbrev pub stray_id : ℕ → ℕ → List DirectoryEntry → Option ℕ
stray_id from bound [] = None
stray_id from bound (e ∷ es) = if nat_lt e.id from then Some e.id else (if nat_lt bound (ids_behind e) then Some (max e.id bound) else stray_id from bound es)

-- the fault for an id that isn't between these
abbrev pub stray_fault : Option ℕ → Read ArchiveFault (Unit {0})
stray_fault None = Ok tt
stray_fault (Some id) = Err (faults.Order id)

abbrev pub unless_stray : List DirectoryEntry → Option ℕ → Read ArchiveFault (List DirectoryEntry)
unless_stray entries None = Ok entries
unless_stray entries (Some id) = Err (faults.Order id)

-- the archive's fault for a fault of the directory at an offset
abbrev pub fault_at : ℕ → DirectoryFault → ArchiveFault
fault_at offset directory_faults.Memory = faults.Memory
fault_at offset _ = faults.Directory offset

abbrev pub directory_or_fault : ℕ → Read DirectoryFault (List DirectoryEntry) → Read ArchiveFault (List DirectoryEntry)
directory_or_fault offset (Ok entries) = Ok entries
directory_or_fault offset (Err _) = Err (faults.Directory offset)

-- the entries of the leaf directory that an entry names, with any ids
unfoldable pub directory_of_entry : List ℕ → Header → DirectoryEntry → Read ArchiveFault (List DirectoryEntry)
directory_of_entry bytes h e =
    if nat_le (e.offset + e.length) h.leaves.length then directory_or_fault (h.leaves.offset + e.offset) (directory_at (entry_bytes h.leaves e bytes))
    else Err (faults.Place e.id)

-- the same, if its ids are from that of the entry on and below the bound
unfoldable pub leaf_at : List ℕ → Header → DirectoryEntry → ℕ → Read ArchiveFault (List DirectoryEntry)
leaf_at bytes h e bound = directory_of_entry bytes h e >>= λ entries. unless_stray entries (stray_id e.id bound entries)

-- the content of a tile entry
unfoldable pub content_of_tile : List ℕ → Header → DirectoryEntry → Read ArchiveFault (List ℕ)
content_of_tile bytes h e = if nat_le (e.offset + e.length) h.tiles.length then Ok (entry_bytes h.tiles e bytes) else Err (faults.Place e.id)

unfoldable pub tile_at : Header → DirectoryEntry → Read ArchiveFault (List DirectoryEntry)
tile_at h e = if nat_le (e.offset + e.length) h.tiles.length then Ok (e ∷ []) else Err (faults.Place e.id)

-- what the entries list, one after the other
abbrev pub each_at : (DirectoryEntry → ℕ → Read ArchiveFault (List DirectoryEntry)) → ℕ → List DirectoryEntry → Read ArchiveFault (List DirectoryEntry)
each_at lists bound [] = Ok []
each_at lists bound (e ∷ es) = lists e (bound_of bound es) >>= λ front. each_at lists bound es >>= λ rest. Ok (front ++ rest)

-- what an entry lists; the number is that of the levels of leaf directories that may follow
abbrev pub lists_at : List ℕ → Header → ℕ → DirectoryEntry → ℕ → Read ArchiveFault (List DirectoryEntry)
lists_at bytes h zero e bound = if nat_lt 0 e.run then tile_at h e else Err faults.Depth
lists_at bytes h (suc more) e bound = if nat_lt 0 e.run then tile_at h e else (leaf_at bytes h e bound >>= each_at (lists_at bytes h more) bound)

-- the tile entries below a root directory of these entries, or the first fault
abbrev pub list_at : List ℕ → Header → List DirectoryEntry → Read ArchiveFault (List DirectoryEntry)
list_at bytes h root = each_at (lists_at bytes h MAX_LEAF_LEVELS) TILE_IDS root
