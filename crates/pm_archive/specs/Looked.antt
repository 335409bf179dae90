-- Looking up one tile id: the entry of each directory that leads to it, from the root on.
use Rattle.std.specs.Prelude.{ℕ, zero, suc, ◌+◌, ◌-◌, ◌||◌, List, length, slice_get, Option, Some, None, Ok, Err, if◌then◌else◌, nat_eq, nat_lt, nat_le}
use Rattle.reader.specs.Reading.{Read, ◌>>=◌}
use Rattle.pm_header.specs.declared.header.Header.{Header}
use Rattle.pm_directory.specs.declared.entry.DirectoryEntry.{DirectoryEntry}
use Rattle.pm_directory.specs.Lookup.{up_to}
use Rattle.pm_archive.specs.declared.fault.ArchiveFault.{ArchiveFault}
use Rattle.pm_archive.specs.declared.fault.ArchiveFault.TheVariants as faults
use Rattle.pm_archive.specs.declared.limits.TheConstants.{MAX_LEAF_LEVELS}
use Rattle.pm_archive.specs.Entries.{entry_bytes}
use Rattle.pm_archive.specs.Reading.{directory_of_entry}

-- the last entry whose id is at most this one
abbrev pub last_up_to : ℕ → List DirectoryEntry → Option DirectoryEntry
last_up_to id entries = slice_get (up_to id entries) (length (up_to id entries) - 1)

-- the entry, if it leads to the id: it names a leaf directory, or its run has the id
abbrev pub where_leads : ℕ → Option DirectoryEntry → Option DirectoryEntry
where_leads id None = None
where_leads id (Some e) = if nat_eq e.run 0 || nat_lt id (e.id + e.run) then Some e else None

-- the entry of a directory that leads to the id
unfoldable pub leading_of : ℕ → List DirectoryEntry → Option DirectoryEntry
leading_of id entries = where_leads id (last_up_to id entries)

-- the same, of the leaf directory that an entry names
unfoldable pub leading_at : List ℕ → Header → ℕ → DirectoryEntry → Read ArchiveFault (Option DirectoryEntry)
leading_at bytes h id leaf = directory_of_entry bytes h leaf >>= λ entries. Ok (leading_of id entries)

-- the tile entry that an entry is, or to which its leaf directory leads; the number is that of the levels of leaf directories that may follow
unfoldable pub reached_at : List ℕ → Header → ℕ → ℕ → Option DirectoryEntry → Read ArchiveFault (Option DirectoryEntry)
reached_at bytes h id zero None = Ok None
reached_at bytes h id zero (Some e) = if nat_lt 0 e.run then Ok (Some e) else Err faults.Depth
reached_at bytes h id (suc more) None = Ok None
reached_at bytes h id (suc more) (Some e) = if nat_lt 0 e.run then Ok (Some e) else (leading_at bytes h id e >>= reached_at bytes h id more)

-- the content of a tile entry, if there is one
unfoldable pub content_at : List ℕ → Header → Option DirectoryEntry → Read ArchiveFault (Option (List ℕ))
content_at bytes h None = Ok None
content_at bytes h (Some e) = if nat_le (e.offset + e.length) h.tiles.length then Ok (Some (entry_bytes h.tiles e bytes)) else Err (faults.Place e.id)

-- the content of an id below a root directory of these entries, or the first fault on the way
unfoldable pub looked_at : List ℕ → Header → List DirectoryEntry → ℕ → Read ArchiveFault (Option (List ℕ))
looked_at bytes h root id = reached_at bytes h id MAX_LEAF_LEVELS (leading_of id root) >>= content_at bytes h
