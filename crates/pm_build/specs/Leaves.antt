-- Leaf directories, and the entries that name them.
use Rattle.std.specs.Prelude.{◌≡◌, ℕ, ◌+◌, ◌*◌, ◌≤◌, ◌⊎◌, List, [], ◌∷◌, ◌++◌, length, slice_range}
use Rattle.std.specs.List.{AllByRecursion}
use Rattle.pm_directory.specs.declared.entry.DirectoryEntry.{DirectoryEntry}
use Rattle.pm_directory.specs.Directory.{IsDirectory, IsEntry, HasEnd}

-- the first of the entries has this id
abbrev pub StartWith : ℕ → List DirectoryEntry → Type 0
StartWith id [] = ⊥
StartWith id (e ∷ es) = e.id ≡ id

-- the name is of a leaf directory of these entries, stored at its offset
pub record NamesLeaf (bytes : List ℕ) (name : DirectoryEntry) (entries : List DirectoryEntry) : Type 0 where
  pub leaf : name.run ≡ 0
  pub first : StartWith name.id entries
  pub inside : name.offset + name.length ≤ length bytes
  pub directory : IsDirectory (slice_range bytes name.offset (name.offset + name.length)) entries

-- the names are of leaf directories that have these entries, one after the other
abbrev pub NameLeaves : List ℕ → List DirectoryEntry → List DirectoryEntry → Type 0
NameLeaves bytes [] entries = entries ≡ []
NameLeaves bytes (name ∷ names) entries =
    (front : List DirectoryEntry) × (rest : List DirectoryEntry) × (entries ≡ front ++ rest) × NamesLeaf bytes name front × NameLeaves bytes names rest

-- leaf directories of these entries, with names that can be entries of a directory
pub record AreLeaves (bytes : List ℕ) (names : List DirectoryEntry) (entries : List DirectoryEntry) : Type 0 where
  pub named : NameLeaves bytes names entries
  pub each : AllByRecursion IsEntry names
  pub ends : AllByRecursion HasEnd names
  pub short : length bytes ≤ 2 * length names + 29 * length entries

-- the root directory has these tile entries itself, or leaf directories have them
abbrev pub AreDirectories : List ℕ → List ℕ → List DirectoryEntry → Type 0
AreDirectories root leaves entries =
    (IsDirectory root entries × (leaves ≡ [])) ⊎ ((names : List DirectoryEntry) × IsDirectory root names × NameLeaves leaves names entries)
