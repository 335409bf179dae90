-- The tile entries of an archive, which its root directory and its leaf directories list.
use Rattle.std.specs.Prelude.{◌≡◌, ℕ, zero, suc, ◌+◌, ◌<◌, ◌≤◌, ◌⊎◌, List, [], ◌∷◌, ◌++◌, slice_range, Option, Some, None, if◌then◌else◌, nat_le, nat_lt, ◌&&◌}
use Rattle.std.specs.Prelude.{◌==◌}
use Rattle.std.specs.List.{AllByRecursion}
use Rattle.hilbert_id.specs.declared.number.TheConstants.{TILE_IDS}
use Rattle.pm_header.specs.declared.section_span.SectionSpan.{SectionSpan}
use Rattle.pm_header.specs.declared.header.Header.{Header}
use Rattle.pm_directory.specs.declared.entry.DirectoryEntry.{DirectoryEntry}
use Rattle.pm_directory.specs.Directory.{IsDirectory, ids_behind}
use Rattle.pm_archive.specs.declared.limits.TheConstants.{MAX_LEAF_LEVELS}
use Rattle.pm_archive.specs.Sections.{section_bytes}

-- the bytes of an entry, whose offset is counted from the start of its section
abbrev pub entry_bytes : SectionSpan → DirectoryEntry → List ℕ → List ℕ
entry_bytes s e bytes = slice_range bytes (s.offset + e.offset) (s.offset + e.offset + e.length)

-- the bytes of the entry are inside the section
abbrev pub LiesIn : SectionSpan → DirectoryEntry → Type 0
LiesIn s e = e.offset + e.length ≤ s.length

-- there is an entry, and its bytes, a leaf directory or a content, are inside their section
abbrev pub LiesInside : Header → Option DirectoryEntry → Type 0
LiesInside h None = ⊥
LiesInside h (Some e) = LiesIn (if e.run == 0 then h.leaves else h.tiles) e

-- an entry leads to ids below that of the next one, the last one to ids below the bound of its directory
abbrev pub bound_of : ℕ → List DirectoryEntry → ℕ
bound_of bound [] = bound
bound_of bound (next ∷ _) = next.id

-- the ids of the entries are at least `from` and below the bound; a leaf has its own id
abbrev pub AreBetween : ℕ → ℕ → List DirectoryEntry → Type 0
AreBetween from bound entries = AllByRecursion (λ e. (from ≤ e.id) × (ids_behind e ≤ bound)) entries

-- the entries lead to these tile entries, one after the other
abbrev pub EachLists : (DirectoryEntry → ℕ → List DirectoryEntry → Type 0) → ℕ → List DirectoryEntry → List DirectoryEntry → Type 0
EachLists Leads bound [] tiles = tiles ≡ []
EachLists Leads bound (e ∷ es) tiles = (front : List DirectoryEntry) × (rest : List DirectoryEntry) × (tiles ≡ front ++ rest)
    × Leads e (bound_of bound es) front × EachLists Leads bound es rest

-- a tile entry lists itself
pub record ListsTile (h : Header) (e : DirectoryEntry) (tiles : List DirectoryEntry) : Type 0 where
  pub tile : 0 < e.run
  pub inside : LiesIn h.tiles e
  pub itself : tiles ≡ e ∷ []

-- the entry names a leaf directory with these entries
pub record IsLeaf (bytes : List ℕ) (h : Header) (e : DirectoryEntry) (bound : ℕ) (entries : List DirectoryEntry) : Type 0 where
  pub leaf : e.run ≡ 0
  pub inside : LiesIn h.leaves e
  pub directory : IsDirectory (entry_bytes h.leaves e bytes) entries
  pub between : AreBetween e.id bound entries

-- an entry lists itself, or what its leaf directory lists; the number is that of the levels of leaf directories that may follow
abbrev pub Lists : List ℕ → Header → ℕ → DirectoryEntry → ℕ → List DirectoryEntry → Type 0
Lists bytes h zero e bound tiles = ListsTile h e tiles
Lists bytes h (suc more) e bound tiles = ListsTile h e tiles
    ⊎ ((entries : List DirectoryEntry) × IsLeaf bytes h e bound entries × EachLists (Lists bytes h more) bound entries tiles)

-- these are the tile entries below the root directory, in ascending order
abbrev pub HasEntries : List ℕ → Header → List DirectoryEntry → Type 0
HasEntries bytes h tiles = (root : List DirectoryEntry) × IsDirectory (section_bytes h.root bytes) root
    × EachLists (Lists bytes h MAX_LEAF_LEVELS) TILE_IDS root tiles

-- the entry whose run has the id
abbrev pub entry_of : List DirectoryEntry → ℕ → Option DirectoryEntry
entry_of [] id = None
entry_of (e ∷ es) id = if nat_le e.id id && nat_lt id (e.id + e.run) then Some e else entry_of es id
