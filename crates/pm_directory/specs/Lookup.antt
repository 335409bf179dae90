-- The entry of an id.
use Rattle.std.specs.Prelude.{◌≡◌, ℕ, ◌+◌, ◌-◌, ◌<◌, ◌⊎◌, List, length, filter, Some, nat_le, slice_get}
use Rattle.pm_directory.specs.declared.entry.DirectoryEntry.{DirectoryEntry}

-- the entries whose ids are at most this one
abbrev pub up_to : ℕ → List DirectoryEntry → List DirectoryEntry
up_to id entries = filter (λ e. nat_le e.id id) entries

-- the last of them
abbrev pub IsLastUpTo : ℕ → List DirectoryEntry → DirectoryEntry → Type 0
IsLastUpTo id entries e = slice_get (up_to id entries) (length (up_to id entries) - 1) ≡ Some e

-- the entry names a leaf directory, or its run has the id
abbrev pub LeadsTo : ℕ → DirectoryEntry → Type 0
LeadsTo id e = (e.run ≡ 0) ⊎ (id < e.id + e.run)
