-- Listing, one entry after the other.
use Rattle.std.specs.Prelude.{ℕ, List, ◌++◌, max, Ok, Option, Some, None, if◌then◌else◌, nat_lt}
use Rattle.reader.specs.Reading.{Read, ◌>>=◌}
use Rattle.pm_archive.specs.declared.fault.ArchiveFault.{ArchiveFault}
use Rattle.pm_directory.specs.declared.entry.DirectoryEntry.{DirectoryEntry}
use Rattle.pm_directory.specs.Directory.{ids_behind}

-- what a reading lists, after the tile entries that there were before
abbrev pub behind : List DirectoryEntry → Read ArchiveFault (List DirectoryEntry) → Read ArchiveFault (List DirectoryEntry)
behind before reading = reading >>= λ listed. Ok (before ++ listed)

-- an id of the entry that isn't between these
abbrev pub stray_of : ℕ → ℕ → DirectoryEntry → Option ℕ
stray_of from bound e = if nat_lt e.id from then Some e.id else (if nat_lt bound (ids_behind e) then Some (max e.id bound) else None)
