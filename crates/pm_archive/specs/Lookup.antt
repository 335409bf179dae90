-- What a look-up caches of an archive.
use Rattle.std.specs.Prelude.{◌≡◌, ℕ, ◌+◌, ◌≤◌, ◌⊎◌, List, [], ◌∷◌, ◌++◌, Ok, if◌then◌else◌, nat_le}
use Rattle.std.specs.List.{All, sum_by}
use Rattle.pm_header.specs.declared.header.Header.{Header}
use Rattle.pm_directory.specs.declared.entry.DirectoryEntry.{DirectoryEntry}
use Rattle.pm_directory.specs.Directory.{IsDirectory}
use Rattle.pm_archive.specs.declared.limits.TheConstants.{MAX_CACHED_LEAF_BYTES, MAX_CACHED_BYTES}
use Rattle.pm_archive.specs.Sections.{HasSections, section_bytes}
use Rattle.pm_archive.specs.Entries.{LiesIn}
use Rattle.pm_archive.specs.Reading.{directory_of_entry}

-- a leaf directory: the entry that names it, and its entries
pub record LeafView : Type 0 where
  pub entry : DirectoryEntry
  pub entries : List DirectoryEntry

-- what is cached of an archive of `count` bytes: its header, the entries of its root directory, and leaf directories, the latest at the end
pub record LookupView : Type 0 where
  pub count : ℕ
  pub header : Header
  pub root : List DirectoryEntry
  pub leaves : List LeafView

-- the leaf directory is the one that its entry names
abbrev pub IsLeafOf : List ℕ → Header → LeafView → Type 0
IsLeafOf bytes h leaf = directory_of_entry bytes h leaf.entry ≡ Ok leaf.entries

-- each cached leaf directory is the one that its entry names
abbrev pub AreCachedOf : List ℕ → Header → List LeafView → Type 0
AreCachedOf bytes h leaves = All (IsLeafOf bytes h) leaves

-- the bytes of each cached leaf directory are inside the section of the leaf directories
abbrev pub AreInside : Header → List LeafView → Type 0
AreInside h leaves = All (λ leaf. LiesIn h.leaves leaf.entry) leaves

-- the stored length of a leaf directory in bytes
abbrev pub leaf_bytes : LeafView → ℕ
leaf_bytes leaf = leaf.entry.length

-- the sum of the stored lengths of leaf directories
abbrev pub bytes_of : List LeafView → ℕ
bytes_of leaves = sum_by leaf_bytes leaves

-- each leaf directory has few enough bytes to be cached, and so have all together
pub record IsSmall (leaves : List LeafView) : Type 0 where
  pub each : All (λ leaf. leaf_bytes leaf ≤ MAX_CACHED_LEAF_BYTES) leaves
  pub all : bytes_of leaves ≤ MAX_CACHED_BYTES

-- what is left before one of this length is added: all of them if it fits as well, otherwise none
abbrev pub left_beside : ℕ → List LeafView → List LeafView
left_beside length leaves = if nat_le (bytes_of leaves + length) MAX_CACHED_BYTES then leaves else []

-- the cache after a small one was read: it is the last one, or memory ran out and it isn't cached
abbrev pub IsCachedBeside : LeafView → List LeafView → List LeafView → Type 0
IsCachedBeside leaf old new =
    (new ≡ left_beside (leaf_bytes leaf) old ++ leaf ∷ []) ⊎ (new ≡ left_beside (leaf_bytes leaf) old)

-- what is cached is of the archive in these bytes
pub record IsLookupOf (bytes : List ℕ) (l : LookupView) : Type 0 where
  pub sections : HasSections bytes l.header
  pub root : IsDirectory (section_bytes l.header.root bytes) l.root
  pub leaves : AreCachedOf bytes l.header l.leaves
